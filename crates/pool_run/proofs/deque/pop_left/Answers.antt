use Rattle.std.proofs.Common.{arith}
use Rattle.pool_run.proofs.Deques.{takes_left, finds}
use Rattle.pool_run.proofs.deque.pop_left.Goals as goal

pub pop_as-requires-clause-fifo : goal.pop_as-requires-clause-fifo
pop_as-requires-clause-fifo g c = λ _. takes_left g.W.Work.finish _ _ (omega (arith, c.requires.all))

pub pop_as-requires-clause-empty : goal.pop_as-requires-clause-empty
pop_as-requires-clause-empty g c = finds g.W.Work.finish _ _
