use Rattle.std.proofs.Common.{◌≡◌, ℕ, ◌^◌, ◌<◌, take, length, sum, get_or}
use Rattle.trau_params.specs.Widths.{larc_widths}
use Rattle.trau_params.specs.FieldBits.{field_bits}
use Rattle.trau_params.proofs.fields.read_larc.Given as goal

-- the first i values are read
abbrev pub invariant-loop-i : goal.invariant-loop-i
invariant-loop-i l = record {
  long : length l.larc ≡ 8;
  fit : (k : ℕ) → k < l.i → get_or l.larc k 0 < 2 ^ get_or larc_widths k 0;
  place : l.at ≡ sum (take l.i larc_widths);
  bits : take l.at l.bits ≡ field_bits larc_widths (take l.i l.larc);
}
