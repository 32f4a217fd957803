use Rattle.std.proofs.Common.{ℕ, List, ◌+◌}
use Rattle.trau_frame.specs.Frame.{IsWritten}
use Rattle.trau_frame.proofs.rows.write_head.Given as goal

abbrev pub invariant-loop-i : goal.invariant-loop-i
invariant-loop-i l = (d : List ℕ) → IsWritten l.control d l.bits l.i

abbrev pub invariant-loop-c : goal.invariant-loop-c
invariant-loop-c l = (d : List ℕ) → IsWritten l.control d l.bits (17 + l.c)
