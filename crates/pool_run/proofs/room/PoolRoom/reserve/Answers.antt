use Rattle.std.proofs.Common.{arith}
use Rattle.pool_run.proofs.room.PoolRoom.reserve.Goals as goal

pub invariant_of-result : goal.invariant_of-result
invariant_of-result g c = (
  c.in_ok-thieves.ensures,
  c.in_ok-finished.ensures.items,
  omega (arith, c.in_ok-finished.ensures.capacity),
  c.in_ok-answer.ensures.items,
  omega (arith, c.in_ok-answer.ensures.capacity),
)
