use Rattle.std.proofs.Common.{◌≡◌, ◌*◌, take, length}
use Rattle.gsm_frame.specs.Pair.{bits_of_pair}
use Rattle.gsm_frame.proofs.pair.bits_of_octets.Given as goal

-- the bits of the first k octets stand
abbrev pub invariant-loop-k : goal.invariant-loop-k
invariant-loop-k l = record {
  long : length l.bits ≡ 520;
  bits : take (8 * l.k) l.bits ≡ bits_of_pair (take l.k l.octets);
}
