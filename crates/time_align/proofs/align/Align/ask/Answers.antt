use Rattle.std.proofs.Common.{ℤ, Option, sym, ap, ◌∙◌, arith}
use Rattle.time_align.proofs.Shifts.{asked_beyond}
use Rattle.time_align.proofs.align.Align.ask.Goals as goal

pub returns-then-field-gt63-clause-step : goal.returns-then-field-gt63-clause-step
returns-then-field-gt63-clause-step c =
    ap (λ (o : Option ℤ). record c.args.self.now { kept = o }) (sym (asked_beyond c.args.field c.args.self.now.kept (omega (arith, c.if-field-gt63.true))))

pub returns-then-field-gt63-clause-history : goal.returns-then-field-gt63-clause-history
returns-then-field-gt63-clause-history c = λ past h. record {
  kept = h.kept ∙ sym (asked_beyond c.args.field _ (omega (arith, c.if-field-gt63.true)));
  frozen = h.frozen;
}
