use Rattle.std.proofs.Common.{◌≡◌, ℕ, ◌+◌, ◌/◌, ◌^◌, ◌<◌, length, get_or}
use Rattle.farm_drill.specs.Draws.{draw_state, draw}
use Rattle.farm_drill.proofs.draws.Generator.bits.Given as goal

abbrev pub invariant-loop-i : goal.invariant-loop-i
invariant-loop-i l = record {
  now : (seed call n : ℕ) → l.fn.self.x ≡ draw_state seed call n → l.self.x ≡ draw_state seed call (n + l.i);
  each : (seed call n : ℕ) → l.fn.self.x ≡ draw_state seed call n → (k : ℕ) → k < l.i → get_or l.bits k 0 ≡ draw seed call (n + k) / 2 ^ 7;
  bits : (k : ℕ) → k < l.i → get_or l.bits k 0 < 2;
  count : length l.bits ≡ 260;
}
