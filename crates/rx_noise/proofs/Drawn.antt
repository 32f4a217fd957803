-- What the loops over pulses and over blocks have drawn so far.
use Rattle.std.proofs.Common.{◌≡◌, ℕ, ◌+◌, ◌*◌, ◌<◌, ◌≤◌, List, [], map, set, length, refl, ap, ◌∙◌, sym, subst, zero-add, arith}
use Rattle.std.specs.List.{range_with_len}
use Rattle.std.proofs.lemmas.List.FromFn.{length-map-range_with_len, get_or-map-range_with_len}
use Rattle.std.proofs.lemmas.List.Elements.{All-from_get_or}
use Rattle.trau_params.specs.Widths.{FitWidth, FitPulses}
use Rattle.trau_num.specs.Random.{state_after_draw, drawn_number}
use Rattle.trau_num.proofs.Fill.{Filled, fill_none, fill_next, fill_all}
use Rattle.rx_muting.specs.Draws.{grid_values, state_after, draw_of}
use Rattle.rx_muting.proofs.Numbered.{draw_of-state_after, draw_of-below, state_after-state_after, state_after-next}
use Rattle.rx_noise.specs.Noise.{least_pulse, pulse_values, block_draws, noise_grids, noise_pulses, all_noise_pulses}

-- ---- pulses of a block

-- i pulses are drawn, from the state r0 on
pub record PulsesDrawn (r0 : ℕ) (xmc : List ℕ) (r i : ℕ) : Type 0 where
  pub filled : Filled 0 (λ i. least_pulse + draw_of r0 i pulse_values) xmc 13 i
  pub source : r ≡ state_after r0 i

-- pulses drawn so far: none, one more, all thirteen
pub pulses_none : (r0 : ℕ) (xmc : List ℕ) → length xmc ≡ 13 → PulsesDrawn r0 xmc r0 0
unfolding state_after
pulses_none r0 xmc e = record { filled = fill_none 0 (λ i. least_pulse + draw_of r0 i pulse_values) xmc 13 e; source = refl }

pub pulses_next : (r0 : ℕ) (xmc : List ℕ) (r i v r' : ℕ) → i < 13 → PulsesDrawn r0 xmc r i →
    v ≡ drawn_number r pulse_values → r' ≡ state_after_draw r → PulsesDrawn r0 (set xmc i (least_pulse + v)) r' (i + 1)
unfolding draw_of
pulses_next r0 xmc r i v r' h d value state =
    let source = d.source in
    record {
      filled = fill_next 0 (λ i. least_pulse + draw_of r0 i pulse_values) xmc 13 i (least_pulse + v) h d.filled
          (ap (λ x. least_pulse + x) (value ∙ ap (λ s. drawn_number s pulse_values) source));
      source = state ∙ ap state_after_draw source ∙ state_after-next r0 i;
    }

pub pulses_all : (r0 : ℕ) (xmc : List ℕ) (r i : ℕ) → 13 ≤ i → PulsesDrawn r0 xmc r i → xmc ≡ noise_pulses (draw_of r0) 0
unfolding noise_pulses
pulses_all r0 xmc r i h d = simp zero-add (fill_all 0 (λ i. least_pulse + draw_of r0 i pulse_values) xmc 13 i h d.filled)

-- the pulses of a source that goes on
pub pulses_go_on : (r first : ℕ) → noise_pulses (draw_of (state_after r first)) 0 ≡ noise_pulses (draw_of r) first
unfolding noise_pulses
pulses_go_on r first = simp (draw_of-state_after, zero-add)

pub pulses_fit : (r first : ℕ) → FitWidth 3 (noise_pulses (draw_of r) first)
unfolding noise_pulses
pulses_fit r first =
    All-from_get_or (λ v. v < 8) (map (λ i. least_pulse + draw_of r (first + i) pulse_values) (range_with_len 0 13)) 0
    (λ k h. let short : k < 13 = simp length-map-range_with_len at h in
    let e = get_or-map-range_with_len (λ i. least_pulse + draw_of r (first + i) pulse_values) 0 13 k k 0 short (omega arith) in
    let b : draw_of r (first + k) pulse_values < pulse_values = draw_of-below r (first + k) pulse_values (omega arith) in
    omega arith)

-- ---- blocks

-- j blocks are drawn, from the state r0 on
pub record BlocksDrawn (r0 : ℕ) (mc : List ℕ) (xmc : List (List ℕ)) (r j : ℕ) : Type 0 where
  pub grids : Filled 0 (λ j. draw_of r0 (block_draws * j) grid_values) mc 4 j
  pub pulses : Filled [] (λ j. noise_pulses (draw_of r0) (block_draws * j + 1)) xmc 4 j
  pub source : r ≡ state_after r0 (block_draws * j)

-- the same of the four blocks
pub blocks_none : (r0 : ℕ) (mc : List ℕ) (xmc : List (List ℕ)) → length mc ≡ 4 → length xmc ≡ 4 → BlocksDrawn r0 mc xmc r0 0
unfolding state_after
blocks_none r0 mc xmc e f = record {
  grids = fill_none 0 (λ j. draw_of r0 (block_draws * j) grid_values) mc 4 e;
  pulses = fill_none [] (λ j. noise_pulses (draw_of r0) (block_draws * j + 1)) xmc 4 f;
  source = refl;
}

pub blocks_next : (r0 : ℕ) (mc : List ℕ) (xmc : List (List ℕ)) (r j v r1 : ℕ) (pulses : List ℕ) (r2 : ℕ) → j < 4 →
    BlocksDrawn r0 mc xmc r j → v ≡ draw_of r 0 grid_values → r1 ≡ state_after r 1 →
    pulses ≡ noise_pulses (draw_of r1) 0 → r2 ≡ state_after r1 13 → BlocksDrawn r0 (set mc j v) (set xmc j pulses) r2 (j + 1)
blocks_next r0 mc xmc r j v r1 pulses r2 h d grid first drawn last =
    let source = d.source in
    let at_pulses : r1 ≡ state_after r0 (block_draws * j + 1) = first ∙ ap (λ s. state_after s 1) source ∙
    state_after-state_after r0 (block_draws * j) 1 in
    let at_next : r2 ≡ state_after r0 (block_draws * j + 1 + 13) = last ∙ ap (λ s. state_after s 13) at_pulses ∙
    state_after-state_after r0 (block_draws * j + 1) 13 in
    let same : block_draws * j + 1 + 13 ≡ block_draws * (j + 1) = omega arith in
    let here : block_draws * j + 0 ≡ block_draws * j = omega arith in
    record {
      grids = fill_next 0 (λ j. draw_of r0 (block_draws * j) grid_values) mc 4 j v h d.grids
          (grid ∙ ap (λ s. draw_of s 0 grid_values) source ∙ draw_of-state_after r0 (block_draws * j) 0 grid_values ∙
          ap (λ n. draw_of r0 n grid_values) here);
      pulses = fill_next [] (λ j. noise_pulses (draw_of r0) (block_draws * j + 1)) xmc 4 j pulses h d.pulses
          (drawn ∙ ap (λ s. noise_pulses (draw_of s) 0) at_pulses ∙ pulses_go_on r0 (block_draws * j + 1));
      source = at_next ∙ ap (state_after r0) same;
    }

-- all four blocks
pub record AllDrawn (r0 : ℕ) (mc : List ℕ) (xmc : List (List ℕ)) (r : ℕ) : Type 0 where
  pub grids : mc ≡ noise_grids (draw_of r0)
  pub pulses : xmc ≡ all_noise_pulses (draw_of r0)
  pub source : r ≡ state_after r0 (4 * block_draws)
  pub grids_fit : FitWidth 2 mc
  pub pulses_fit : FitPulses xmc

pub blocks_all : (r0 : ℕ) (mc : List ℕ) (xmc : List (List ℕ)) (r j : ℕ) → j ≡ 4 → BlocksDrawn r0 mc xmc r j → AllDrawn r0 mc xmc r
unfolding noise_grids all_noise_pulses
blocks_all r0 mc xmc r j stop d =
    let grids = d.grids in
    let pulses = d.pulses in
    let mc_count = grids.count in
    let xmc_count = pulses.count in
    let end : block_draws * j ≡ 4 * block_draws = omega arith in
    record {
      grids = fill_all 0 (λ j. draw_of r0 (block_draws * j) grid_values) mc 4 j (omega arith) grids;
      pulses = fill_all [] (λ j. noise_pulses (draw_of r0) (block_draws * j + 1)) xmc 4 j (omega arith) pulses;
      source = d.source ∙ ap (state_after r0) end;
      grids_fit = All-from_get_or (λ v. v < 4) mc 0
          (λ k h. let e = grids.each k (omega arith) in
          let b : draw_of r0 (block_draws * k) grid_values < grid_values = draw_of-below r0 (block_draws * k) grid_values (omega arith) in
          omega arith);
      pulses_fit = All-from_get_or (λ p. FitWidth 3 p) xmc []
          (λ k h. subst (λ p. FitWidth 3 p) (sym (pulses.each k (omega arith))) (pulses_fit r0 (block_draws * k + 1)));
    }
