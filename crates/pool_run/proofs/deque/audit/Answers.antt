use Rattle.pool_run.proofs.Deques.{learns}
use Rattle.pool_run.proofs.deque.audit.Goals as goal

pub len_as-requires : goal.len_as-requires
len_as-requires g c = learns g.W.Work.finish _ _
