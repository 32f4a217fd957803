use Rattle.std.proofs.Common.{◌≡◌}
use Rattle.line_tests.proofs.pool_core_tests.stepped.Given as goal

abbrev pub invariant-loop-step : goal.invariant-loop-step
invariant-loop-step l = l.pool.lens ≡ l.fn.pool.lens
