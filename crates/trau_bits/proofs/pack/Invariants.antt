use Rattle.std.proofs.Common.{◌≡◌, ℕ, ◌*◌, ◌<◌, get_or}
use Rattle.trau_bits.specs.Bits.{octet_at}
use Rattle.trau_bits.proofs.pack.Given as goal

abbrev pub invariant-loop-k : goal.invariant-loop-k
invariant-loop-k l = (i : ℕ) → i < l.k → get_or l.bytes i 0 ≡ octet_at l.bits (8 * i)
