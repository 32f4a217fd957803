use Rattle.std.proofs.Common.{◌≡◌, take, length, sum}
use Rattle.trau_params.specs.Widths.{larc_widths}
use Rattle.trau_params.specs.FieldBits.{field_bits}
use Rattle.trau_params.proofs.fields.put_larc.Given as goal

-- the first i values stand
abbrev pub invariant-loop-i : goal.invariant-loop-i
invariant-loop-i l = record {
  long : length l.bits ≡ 260;
  place : l.at ≡ sum (take l.i larc_widths);
  bits : take l.at l.bits ≡ field_bits larc_widths (take l.i l.larc);
}
