use Rattle.std.proofs.Common.{◌≡◌}
use Rattle.pool_run.proofs.work.run_to_end.Given as goal

-- the places that were run don't change what the job becomes
abbrev pub invariant-loop-job : goal.invariant-loop-job
invariant-loop-job g l = g.W.Work.finish l.job ≡ g.W.Work.finish l.initial.job

abbrev pub decreases-loop-job : goal.decreases-loop-job
decreases-loop-job g l = g.W.Work.left l.job
