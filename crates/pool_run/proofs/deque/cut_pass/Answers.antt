use Rattle.pool_run.proofs.Deques.{forks}
use Rattle.pool_run.proofs.deque.cut_pass.Goals as goal

pub another-requires : goal.another-requires
another-requires g c = forks g.W.Work.finish _ _ c.requires
