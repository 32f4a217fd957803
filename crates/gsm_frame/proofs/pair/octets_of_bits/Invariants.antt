use Rattle.std.proofs.Common.{◌≡◌, ◌*◌, take, length}
use Rattle.gsm_frame.specs.Pair.{bits_of_pair}
use Rattle.gsm_frame.proofs.pair.octets_of_bits.Given as goal

-- the first k octets stand for their bits
abbrev pub invariant-loop-k : goal.invariant-loop-k
invariant-loop-k l = record {
  long : length l.octets ≡ 65;
  bits : take (8 * l.k) l.bits ≡ bits_of_pair (take l.k l.octets);
}
