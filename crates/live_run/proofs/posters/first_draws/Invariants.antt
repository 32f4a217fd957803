use Rattle.std.proofs.Common.{◌≡◌, ◌≤◌, ◌<◌, ◌+◌, ℕ, get_or, vec_len, vec_capacity}
use Rattle.farm_drill.specs.Draws.{draw_state}
use Rattle.farm_drill.specs.declared.draws.Generator.{Generator}
use Rattle.live_run.proofs.posters.first_draws.Given as goal

abbrev pub invariant-loop-k : goal.invariant-loop-k
invariant-loop-k l = record {
  len : vec_len l.draws ≡ l.k;
  capacity : l.calls ≤ vec_capacity l.draws;
  each : (k : ℕ) (g : Generator) → k < l.k → (get_or l.draws.items k g).x ≡ draw_state l.seed (k + 1) 0;
}
