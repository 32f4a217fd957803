use Rattle.std.proofs.Common.{◌≡◌}
use Rattle.call_tests.proofs.ccu_end_tests.periods_in_place.Given as goal

abbrev pub invariant-loop-period : goal.invariant-loop-period
invariant-loop-period l = l.ccu.periods ≡ l.period
