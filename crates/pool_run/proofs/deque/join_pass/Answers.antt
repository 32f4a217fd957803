use Rattle.pool_run.proofs.Deques.{merges}
use Rattle.pool_run.proofs.deque.join_pass.Goals as goal

pub absorb-requires-clause-rule : goal.absorb-requires-clause-rule
absorb-requires-clause-rule g c = merges g.W.Work.finish _ _ _ _ c.requires.parts
