use Rattle.std.proofs.Common.{ℕ, List, ◌+◌, ◌*◌}
use Rattle.trau_frame.specs.Frame.{IsWritten}
use Rattle.trau_frame.proofs.rows.write_data.Given as goal

abbrev pub invariant-loop-row : goal.invariant-loop-row
invariant-loop-row l = (control : List ℕ) → IsWritten control l.d l.fn.bits 32 → IsWritten control l.d l.bits (32 + 16 * l.row)
