use Rattle.std.proofs.Common.{◌≡◌, ◌+◌, ◌-◌, ◌^◌, ◌<◌, ◌++◌, take}
use Rattle.trau_params.specs.FieldBits.{low_bits}
use Rattle.trau_params.proofs.fields.read.Given as goal

-- the bits from t on are read
abbrev pub invariant-loop-t : goal.invariant-loop-t
invariant-loop-t l = record {
  fits : l.value < 2 ^ (l.width - l.t);
  bits : take (l.at + l.width) l.bits ≡ take (l.at + l.t) l.bits ++ low_bits (l.width - l.t) l.value;
}
