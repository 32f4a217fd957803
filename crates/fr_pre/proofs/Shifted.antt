-- A list whose first place holds what came before, and each next place `f` of the place before it.
use Rattle.std.proofs.Common.{◌≡◌, ℕ, ◌+◌, ◌<◌, ◌≤◌, ℤ, pos, get_or, set, length, List, arith, ◌∙◌, sym, subst, below_more, suc, zero}
use Rattle.std.proofs.lemmas.List.{length-set, get_or-set_same, get_or-set_other}
use Rattle.fr_pre.specs.Offsets.{IsDownscaled, AreDownscaled}
use Rattle.fr_pre.specs.Preprocessing.{downscaled}

-- the first k of n places after the first
pub record Shifted (before : ℤ) (f : ℕ → ℤ) (xs : List ℤ) (n k : ℕ) : Type 0 where
  pub count : length xs ≡ n + 1
  pub first : get_or xs 0 (pos 0) ≡ before
  pub each : (j : ℕ) → j < k → get_or xs (j + 1) (pos 0) ≡ f j

-- a list one item behind another: nothing made yet, and one item more
pub shifted_start : (before : ℤ) (f : ℕ → ℤ) (xs : List ℤ) (n : ℕ) → length xs ≡ n + 1 → Shifted before f (set xs 0 before) n 0
shifted_start before f xs n l = record {
  count = length-set xs 0 before ∙ l;
  first = get_or-set_same xs 0 before (pos 0) (omega arith);
  each = λ j h. absurd (omega arith);
}

pub shifted_next : (before : ℤ) (f : ℕ → ℤ) (xs : List ℤ) (n k : ℕ) (y : ℤ) → k < n → Shifted before f xs n k → y ≡ f k →
    Shifted before f (set xs (k + 1) y) n (k + 1)
shifted_next before f xs n k y h run e =
    let count = run.count in
    let l : k + 1 < length xs = omega arith in
    record {
      count = length-set xs (k + 1) y ∙ count;
      first = get_or-set_other xs (k + 1) 0 y (pos 0) (omega arith) ∙ run.first;
      each = below_more (λ j. get_or (set xs (k + 1) y) (j + 1) (pos 0) ≡ f j) k
          (λ j b. get_or-set_other xs (k + 1) (j + 1) y (pos 0) (omega arith) ∙ run.each j b)
          (get_or-set_same xs (k + 1) y (pos 0) l ∙ e);
    }

-- a frame of which the first k samples are downscaled
pub record Downscaling (before : ℤ) (x so : List ℤ) (k : ℕ) : Type 0 where
  pub shifted : Shifted before (λ j. downscaled (get_or x j (pos 0))) so 160 k
  pub within : (j : ℕ) → j < k → IsDownscaled (get_or so (j + 1) (pos 0))

pub downscaling_next : (before : ℤ) (x so : List ℤ) (k : ℕ) (y : ℤ) → k < 160 → Downscaling before x so k → y ≡ downscaled (get_or x k (pos 0)) →
    IsDownscaled y → Downscaling before x (set so (k + 1) y) (k + 1)
downscaling_next before x so k y h run e w =
    let count = run.shifted.count in
    let l : k + 1 < length so = omega arith in
    record {
      shifted = shifted_next before (λ j. downscaled (get_or x j (pos 0))) so 160 k y h run.shifted e;
      within = below_more (λ j. IsDownscaled (get_or (set so (k + 1) y) (j + 1) (pos 0))) k
          (λ j b. subst (λ v. IsDownscaled v) (sym (get_or-set_other so (k + 1) (j + 1) y (pos 0) (omega arith))) (run.within j b))
          (subst (λ v. IsDownscaled v) (sym (get_or-set_same so (k + 1) y (pos 0) l)) w);
    }

-- each of them, with the one before
every_within : (before : ℤ) (so : List ℤ) → IsDownscaled before → get_or so 0 (pos 0) ≡ before →
    ((j : ℕ) → j < 160 → IsDownscaled (get_or so (j + 1) (pos 0))) → (j : ℕ) → j < 161 → IsDownscaled (get_or so j (pos 0))
every_within before so b first within zero h = subst (λ v. IsDownscaled v) (sym first) b
every_within before so b first within (suc j) h =
    let next : j + 1 ≡ suc j = omega arith in
    let w : IsDownscaled (get_or so (j + 1) (pos 0)) = within j (omega (arith, h)) in
    subst (λ n. IsDownscaled (get_or so n (pos 0))) next w

pub downscaling_end : (before : ℤ) (x so : List ℤ) (k : ℕ) → 160 ≤ k → IsDownscaled before → Downscaling before x so k → AreDownscaled before x so
downscaling_end before x so k l b run = record {
  first = run.shifted.first;
  each = λ j h. run.shifted.each j (omega arith);
  within = every_within before so b run.shifted.first (λ j h. run.within j (omega arith));
}
