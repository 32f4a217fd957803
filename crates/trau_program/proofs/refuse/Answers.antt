use Rattle.std.proofs.Common.{subst}
use Rattle.trau_io.specs.Transfer.{Tells}
use Rattle.trau_program.proofs.refuse.Goals as goal

pub returns-clause-text : goal.returns-clause-text
returns-clause-text g c = record {
  result = c.tell.result;
  tells = subst (λ text. Tells (g.D.Desk.desk c.args.desk.now) (g.D.Desk.desk c.tell.new.desk) c.tell.result text) c.text.ensures c.tell.ensures;
}
