use Rattle.std.proofs.Common.{◌≡◌}
use Rattle.line_tests.proofs.frame_sync_tests.found_in_turn.Given as goal

abbrev pub invariant-loop-k : goal.invariant-loop-k
invariant-loop-k l = l.sync.periods ≡ l.k
