use Rattle.std.proofs.Common.{◌≡◌, ◌+◌, ◌-◌, ◌^◌, ◌<◌, ◌++◌, take}
use Rattle.trau_params.specs.FieldBits.{low_bits}
use Rattle.gsm_frame.proofs.pair.octet_at.Given as goal

-- the bits from t on are read
abbrev pub invariant-loop-t : goal.invariant-loop-t
invariant-loop-t l = record {
  fits : l.octet < 2 ^ (8 - l.t);
  bits : take (l.at + 8) l.bits ≡ take (l.at + l.t) l.bits ++ low_bits (8 - l.t) l.octet;
}
