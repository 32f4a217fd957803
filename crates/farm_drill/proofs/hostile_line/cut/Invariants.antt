use Rattle.std.proofs.Common.{◌≡◌, ℕ, ◌+◌, ◌*◌, ◌%◌, ◌<◌, length, get_or}
use Rattle.farm_drill.specs.Hostile.{zero_bits}
use Rattle.farm_drill.proofs.hostile_line.cut.Given as goal

abbrev pub invariant-loop-i : goal.invariant-loop-i
invariant-loop-i l = record {
  each : (k : ℕ) → k < l.i → get_or l.bits k 0 ≡ get_or (zero_bits 0) ((320 * l.period + k) % 305) 0;
  bits : (k : ℕ) → k < l.i → get_or l.bits k 0 < 2;
  count : length l.bits ≡ 320;
}
