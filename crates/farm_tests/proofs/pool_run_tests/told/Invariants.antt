use Rattle.std.proofs.Common.{◌≡◌, vec_len}
use Rattle.farm_tests.proofs.pool_run_tests.told.Given as goal

abbrev pub invariant-loop-left : goal.invariant-loop-left
invariant-loop-left g l = vec_len l.jobs ≡ l.left-index
