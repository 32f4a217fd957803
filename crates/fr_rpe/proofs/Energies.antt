-- The energies of four grids, which grow by a sample each.
use Rattle.std.proofs.Common.{◌≡◌, ℕ, ℤ, ◌+◌, ◌*◌, ◌^◌, ◌<◌, ◌≤◌, pos, ◌+ℤ◌, ◌≤ℤ◌, List, [], ◌∷◌, fold, map, get_or, set, length, ap, sym, ◌∙◌, arith, inl, inr}
use Rattle.std.specs.List.{range_with_len}
use Rattle.std.proofs.lemmas.Int.{ints}
use Rattle.std.proofs.lemmas.Bool.{cases_eq}
use Rattle.std.proofs.lemmas.Grind.{fold-append}
use Rattle.std.proofs.lemmas.List.{length-set, get_or-set_same, get_or-set_other}
use Rattle.std.proofs.lemmas.List.FromFn.{map-range_with_len_more}
use Rattle.fr_rpe.specs.Selection.{energy_up_to, sample_energy, AreEnergies}

-- the grids below m have one sample more than the others
pub record Growing (i m : ℕ) (x sums : List ℤ) : Type 0 where
  pub count : length sums ≡ 4
  pub grown : (n : ℕ) → n < m → n < 4 → get_or sums n (pos 0) ≡ energy_up_to (i + 1) x n
  pub rest : (n : ℕ) → m ≤ n → n < 4 → get_or sums n (pos 0) ≡ energy_up_to i x n
  pub at_least : (n : ℕ) → n < 4 → pos 0 ≤ℤ get_or sums n (pos 0)
  pub grown_at_most : (n : ℕ) → n < m → n < 4 → get_or sums n (pos 0) ≤ℤ pos (2 ^ 27 * (i + 1))
  pub rest_at_most : (n : ℕ) → m ≤ n → n < 4 → get_or sums n (pos 0) ≤ℤ pos (2 ^ 27 * i)

-- one sample more
pub energy_more : (i : ℕ) (x : List ℤ) (m : ℕ) → energy_up_to (i + 1) x m ≡ energy_up_to i x m +ℤ sample_energy (get_or x (m + 3 * i) (pos 0))
unfolding energy_up_to
energy_more i x m =
    ap (fold ◌+ℤ◌ (pos 0)) (map-range_with_len_more (λ i. sample_energy (get_or x (m + 3 * i) (pos 0))) 0 i i (omega arith)) ∙
    fold-append ◌+ℤ◌ (pos 0) (map (λ i. sample_energy (get_or x (m + 3 * i) (pos 0))) (range_with_len 0 i))
    (sample_energy (get_or x (m + 3 * i) (pos 0)) ∷ [])

-- one sample more in the energies of the grids: of none yet, of all four, of one grid more
pub grow_start : (i : ℕ) (x sums : List ℤ) → length sums ≡ 4 → AreEnergies i x sums → Growing i 0 x sums
grow_start i x sums l h = record {
  count = l;
  grown = λ n a b. absurd (omega arith);
  rest = λ n a b. h.each n b;
  at_least = h.at_least;
  grown_at_most = λ n a b. absurd (omega arith);
  rest_at_most = λ n a b. h.at_most n b;
}

pub grow_end : (i m : ℕ) (x sums : List ℤ) → 4 ≤ m → Growing i m x sums → AreEnergies (i + 1) x sums
grow_end i m x sums l h = record {
  each = λ n b. h.grown n (omega arith) b;
  at_least = h.at_least;
  at_most = λ n b. h.grown_at_most n (omega arith) b;
}

pub grow_next : (i m : ℕ) (x sums : List ℤ) (more y : ℤ) → m < 4 → Growing i m x sums → more ≡ sample_energy (get_or x (m + 3 * i) (pos 0)) →
    pos 0 ≤ℤ more → more ≤ℤ pos (2 ^ 27) → y ≡ get_or sums m (pos 0) +ℤ more → Growing i (m + 1) x (set sums m y)
grow_next i m x sums more y l h e low high s =
    let count = h.count in
    let here = h.rest m (omega arith) l in
    let bottom = h.at_least m l in
    let top = h.rest_at_most m (omega arith) l in
    let value : y ≡ energy_up_to (i + 1) x m = s ∙ (ap (λ a. a +ℤ more) here ∙ ap (λ a. energy_up_to i x m +ℤ a) e ∙ sym (energy_more i x m)) in
    let y_low : pos 0 ≤ℤ y = omega (arith, ints) in
    let y_high : y ≤ℤ pos (2 ^ 27 * (i + 1)) = omega (arith, ints) in
    let same : get_or (set sums m y) m (pos 0) ≡ y = get_or-set_same sums m y (pos 0) (omega arith) in
    record {
      count = length-set sums m y ∙ count;
      grown = λ n a b. elim (cases_eq n m) [
        | inl q ↦ rw q (same ∙ value)
        | inr q ↦ get_or-set_other sums m n y (pos 0) q ∙ h.grown n (omega arith) b
      ];
      rest = λ n a b. get_or-set_other sums m n y (pos 0) (omega arith) ∙ h.rest n (omega arith) b;
      at_least = λ n b. elim (cases_eq n m) [
        | inl q ↦ rw (q, same) y_low
        | inr q ↦ rw (get_or-set_other sums m n y (pos 0) q) (h.at_least n b)
      ];
      grown_at_most = λ n a b. elim (cases_eq n m) [
        | inl q ↦ rw (q, same) y_high
        | inr q ↦ rw (get_or-set_other sums m n y (pos 0) q) (h.grown_at_most n (omega arith) b)
      ];
      rest_at_most = λ n a b.
          let other : n ≡ m → ⊥ = omega arith in
          rw (get_or-set_other sums m n y (pos 0) other) (h.rest_at_most n (omega arith) b);
    }
