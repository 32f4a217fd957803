use Rattle.pool_run.proofs.Deques.{takes}
use Rattle.pool_run.proofs.deque.pop.Goals as goal

pub pop_as-requires-clause-fifo : goal.pop_as-requires-clause-fifo
pop_as-requires-clause-fifo g c = λ _. takes g.W.Work.finish _ _ c.requires.parts
