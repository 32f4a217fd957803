use Rattle.std.proofs.Common.{◌≡◌, ◌+◌}
use Rattle.farm_tests.specs.Counter.{digits_after}
use Rattle.farm_tests.proofs.pool_run_tests.CounterWork.slice.Given as goal

abbrev pub invariant-loop : goal.invariant-loop
invariant-loop l = record {
  left : l.self.left + l.counter ≡ l.fn.self.left;
  digits : digits_after l.self.left l.self.digits ≡ digits_after l.fn.self.left l.fn.self.digits;
  call : l.self.call ≡ l.fn.self.call;
}
