use Rattle.std.proofs.Common.{◌≡◌, ℕ, ◌+◌, ◌*◌, ◌^◌, ◌<◌, ◌++◌, take, length, get_or}
use Rattle.trau_params.specs.Widths.{pulse_widths, xmc_width}
use Rattle.trau_params.specs.FieldBits.{field_bits}
use Rattle.trau_params.proofs.fields.read_pulses.Given as goal

-- the first i pulses are read
abbrev pub invariant-loop-i : goal.invariant-loop-i
invariant-loop-i l = record {
  long : length l.xmc ≡ 13;
  fit : (k : ℕ) → k < l.i → get_or l.xmc k 0 < 2 ^ xmc_width;
  bits : take (l.at + 3 * l.i) l.bits ≡ take l.at l.bits ++ field_bits pulse_widths (take l.i l.xmc);
}
