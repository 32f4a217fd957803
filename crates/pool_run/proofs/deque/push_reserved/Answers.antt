use Rattle.pool_run.proofs.Deques.{pushes}
use Rattle.pool_run.proofs.deque.push_reserved.Goals as goal

pub push_as-requires-clause-pushes : goal.push_as-requires-clause-pushes
push_as-requires-clause-pushes g c = pushes g.W.Work.finish _ _ _ c.requires.parts
