use Rattle.pool_run.proofs.Deques.{takes, seen_after}
use Rattle.pool_run.proofs.deque.steal.Goals as goal

pub steal_as-requires-clause-takes : goal.steal_as-requires-clause-takes
steal_as-requires-clause-takes g c = takes g.W.Work.finish _ _ c.requires.parts

pub returns-clause-stolen : goal.returns-clause-stolen
returns-clause-stolen g c = seen_after g.W.Work.finish c.steal_as.result _ _ _ _ c.steal_as.ensures.rule
