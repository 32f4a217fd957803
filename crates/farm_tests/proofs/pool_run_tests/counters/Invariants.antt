use Rattle.std.proofs.Common.{◌≡◌, vec_len}
use Rattle.farm_tests.proofs.pool_run_tests.counters.Given as goal

abbrev pub invariant-loop-job : goal.invariant-loop-job
invariant-loop-job g l = vec_len l.counters ≡ l.job-index
