use Rattle.std.proofs.Common.{ℕ}
use Rattle.switchboard.specs.State.{EndBefore}
use Rattle.line_tests.proofs.switchboard_tests.replied.Given as goal

-- no end is told
abbrev pub invariant-loop-result : goal.invariant-loop-result
invariant-loop-result l = (t : ℕ) → EndBefore t l.board
