-- Random grids, drawn one after another.
use Rattle.std.proofs.Common.{◌≡◌, ℕ, ◌+◌, ◌<◌, List, set, length, refl, ap, ◌∙◌, arith}
use Rattle.std.proofs.lemmas.List.Elements.{All-from_get_or}
use Rattle.trau_params.specs.Widths.{FitWidth}
use Rattle.trau_num.specs.Random.{state_after_draw, drawn_number}
use Rattle.trau_num.proofs.Fill.{Filled, fill_none, fill_next, fill_all}
use Rattle.rx_muting.specs.Draws.{grid_values, state_after, draw_of}
use Rattle.rx_muting.proofs.Numbered.{draw_of-below, state_after-next}
use Rattle.rx_subst.specs.Lost.{random_grids}

-- j grids are drawn, from the state r0 on
pub record GridsDrawn (r0 : ℕ) (mc : List ℕ) (r j : ℕ) : Type 0 where
  pub filled : Filled 0 (λ j. draw_of r0 j grid_values) mc 4 j
  pub source : r ≡ state_after r0 j

-- grids drawn so far: none, one more, all four
pub grids_none : (r0 : ℕ) (mc : List ℕ) → length mc ≡ 4 → GridsDrawn r0 mc r0 0
unfolding state_after
grids_none r0 mc e = record { filled = fill_none 0 (λ j. draw_of r0 j grid_values) mc 4 e; source = refl }

pub grids_next : (r0 : ℕ) (mc : List ℕ) (r j v r' : ℕ) → j < 4 → GridsDrawn r0 mc r j →
    v ≡ drawn_number r grid_values → r' ≡ state_after_draw r → GridsDrawn r0 (set mc j v) r' (j + 1)
unfolding draw_of
grids_next r0 mc r j v r' h d value state =
    let source = d.source in
    record {
      filled = fill_next 0 (λ j. draw_of r0 j grid_values) mc 4 j v h d.filled (value ∙ ap (λ s. drawn_number s grid_values) source);
      source = state ∙ ap state_after_draw source ∙ state_after-next r0 j;
    }

-- all four grids
pub record AllGrids (r0 : ℕ) (mc : List ℕ) (r : ℕ) : Type 0 where
  pub values : mc ≡ random_grids (draw_of r0)
  pub source : r ≡ state_after r0 4
  pub fit : FitWidth 2 mc

pub grids_all : (r0 : ℕ) (mc : List ℕ) (r j : ℕ) → j ≡ 4 → GridsDrawn r0 mc r j → AllGrids r0 mc r
unfolding random_grids
grids_all r0 mc r j stop d =
    let filled = d.filled in
    let count = filled.count in
    record {
      values = fill_all 0 (λ j. draw_of r0 j grid_values) mc 4 j (omega arith) filled;
      source = d.source ∙ ap (state_after r0) stop;
      fit = All-from_get_or (λ v. v < 4) mc 0
          (λ k h. let e = filled.each k (omega arith) in
          let b : draw_of r0 k grid_values < grid_values = draw_of-below r0 k grid_values (omega arith) in omega arith);
    }
