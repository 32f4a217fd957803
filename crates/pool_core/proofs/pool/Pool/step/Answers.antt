use Rattle.std.proofs.Common.{◌∙◌, ap, refl, sym}
use Rattle.pool_core.specs.Machine.{PoolState, pool_start}
use Rattle.pool_core.proofs.Whole.{stepped_after, legal_stepped, other_stepped, stepped_lens}
use Rattle.pool_core.proofs.pool.Pool.step.Goals as goal

pub returns-then-not-is_legal-clause-state : goal.returns-then-not-is_legal-clause-state
returns-then-not-is_legal-clause-state c = other_stepped c.args.self.now c.args.step (sym c.is_legal.ensures ∙ c.if-not-is_legal.true)

pub returns-then-not-is_legal-clause-refused : goal.returns-then-not-is_legal-clause-refused
returns-then-not-is_legal-clause-refused c = refl

pub returns-then-not-is_legal-clause-steps : goal.returns-then-not-is_legal-clause-steps
returns-then-not-is_legal-clause-steps c = λ workers lens steps e.
    stepped_after (pool_start workers lens) c.args.self.now c.args.self.now steps c.args.step (other_stepped c.args.self.now c.args.step (sym c.is_legal.ensures
    ∙ c.if-not-is_legal.true)) e

pub returns-clause-state : goal.returns-clause-state
returns-clause-state c =
    legal_stepped c.args.self.now c.make.new.self c.args.step (sym c.is_legal.ensures ∙ c.if-not-is_legal.false) c.make.ensures

pub returns-clause-jobs : goal.returns-clause-jobs
returns-clause-jobs c = ap (λ (s : PoolState). s.lens) (returns-clause-state c) ∙ stepped_lens c.args.self.now c.args.step

pub returns-clause-steps : goal.returns-clause-steps
returns-clause-steps c = λ workers lens steps e.
    stepped_after (pool_start workers lens) c.args.self.now c.make.new.self steps c.args.step
    (legal_stepped c.args.self.now c.make.new.self c.args.step (sym c.is_legal.ensures ∙ c.if-not-is_legal.false) c.make.ensures) e
