use Rattle.std.proofs.Common.{◌+◌}
use Rattle.trau_frame.specs.Frame.{IsWritten}
use Rattle.trau_frame.proofs.rows.write_tail.Given as goal

abbrev pub invariant-loop-n : goal.invariant-loop-n
invariant-loop-n l = IsWritten l.control l.d l.fn.bits 304 → IsWritten l.control l.d l.bits (305 + l.n)

abbrev pub invariant-loop-c : goal.invariant-loop-c
invariant-loop-c l = IsWritten l.control l.d l.fn.bits 304 → IsWritten l.control l.d l.bits (310 + l.c)

abbrev pub invariant-loop-t : goal.invariant-loop-t
invariant-loop-t l = IsWritten l.control l.d l.fn.bits 304 → IsWritten l.control l.d l.bits (316 + l.t)
