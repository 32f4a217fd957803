use Rattle.std.proofs.Common.{◌≡◌, ℕ, ◌+◌, ◌<◌, get_or}
use Rattle.farm_drill.specs.Draws.{draw_state, draw}
use Rattle.farm_drill.proofs.draws.Generator.fill.Given as goal

abbrev pub invariant-loop-octet : goal.invariant-loop-octet
invariant-loop-octet l = record {
  now : (seed call n : ℕ) → l.fn.self.x ≡ draw_state seed call n → l.self.x ≡ draw_state seed call (n + l.octet-index);
  each : (seed call n : ℕ) → l.fn.self.x ≡ draw_state seed call n → (k : ℕ) → k < l.octet-index → get_or l.octets k 0 ≡ draw seed call (n + k);
}
