use Rattle.std.proofs.Common.{◌≡◌, ◌+◌, ◌++◌, take, length}
use Rattle.trau_params.specs.FieldBits.{low_bits}
use Rattle.gsm_frame.proofs.pair.put_octet.Given as goal

-- the first t bits of the octet stand
abbrev pub invariant-loop-t : goal.invariant-loop-t
invariant-loop-t l = record {
  long : length l.bits ≡ 520;
  bits : take (l.at + l.t) l.bits ≡ take l.at l.initial.bits ++ low_bits l.t l.octet;
}
