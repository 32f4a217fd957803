use Rattle.std.proofs.Common.{arith}
use Rattle.pool_core.proofs.Rows.{jobs_none}
use Rattle.pool_core.proofs.pool.front.Goals as goal

pub returns-clause-none : goal.returns-clause-none
returns-clause-none c = λ h. jobs_none c.args.waiting.now c.args.worker (λ j d l. c.loop-place.invariant j d (omega (arith, l, c.loop-place-test.false)))
