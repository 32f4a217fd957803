use Rattle.std.proofs.Common.{◌≡◌, ℕ, ◌*◌, ◌<◌, get_or}
use Rattle.trau_bits.specs.Bits.{bit_of}
use Rattle.trau_bits.proofs.unpack.Given as goal

abbrev pub invariant-loop-k : goal.invariant-loop-k
invariant-loop-k l = (i : ℕ) → i < 8 * l.k → get_or l.bits i 0 ≡ bit_of l.bytes i
