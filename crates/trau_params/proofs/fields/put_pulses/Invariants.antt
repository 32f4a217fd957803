use Rattle.std.proofs.Common.{◌≡◌, ◌+◌, ◌*◌, ◌++◌, take, length}
use Rattle.trau_params.specs.Widths.{pulse_widths}
use Rattle.trau_params.specs.FieldBits.{field_bits}
use Rattle.trau_params.proofs.fields.put_pulses.Given as goal

-- the first i pulses stand
abbrev pub invariant-loop-i : goal.invariant-loop-i
invariant-loop-i l = record {
  long : length l.bits ≡ 260;
  place : l.next ≡ l.at + 3 * l.i;
  bits : take l.next l.bits ≡ take l.at l.initial.bits ++ field_bits pulse_widths (take l.i l.xmc);
}
