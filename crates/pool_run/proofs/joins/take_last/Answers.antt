use Rattle.std.proofs.Common.{length, ap, arith, get_or}
use Rattle.pool_run.proofs.Joining.{taken_some}
use Rattle.pool_run.proofs.Rows.{passes_at}
use Rattle.pool_run.proofs.Lists.{none_absurd}
use Rattle.pool_run.proofs.joins.take_last.Goals as goal

pub returns-clause-some : goal.returns-clause-some
returns-clause-some g c =
    taken_some g.W.Work.finish c.args.thieves.now c.args.members.now c.args.j c.index-members-j.result c.pop.new.self c.pop.result c.requires.shared
    c.requires.there c.pop.ensures.items

pub returns-clause-none : goal.returns-clause-none
returns-clause-none g c =
    let ms = c.args.members.now in
    none_absurd c.pop.result _ _ _ _ c.pop.ensures.cases
    (λ z. c.if-row_len-eq0.false
    (omega (
      arith,
      z,
      c.row_len.ensures,
      (get_or ms c.args.j c.index-members-j.result).passes.ok.0,
      ap length (passes_at ms c.args.j c.index-members-j.result c.requires.there),
    )))
