-- A loop that overwrites P or K from the front.
use Rattle.std.proofs.Common.{◌≡◌, ℕ, ℤ, ◌+◌, ◌<◌, ◌≤◌, pos, get_or, set, length, List, map, refl, ◌∙◌, arith, inl, inr}
use Rattle.std.proofs.lemmas.List.{length-set, get_or-set_same, get_or-set_other}
use Rattle.std.proofs.lemmas.Bool.{cases_eq, cases_lt}
use Rattle.std.proofs.lemmas.Grind.{common_steps}
use Rattle.std.proofs.lemmas.List.FromFn.{fill_by_all}
use Rattle.std.specs.List.{range_with_len}
use Rattle.trau_num.specs.Num.{add_of, mult_r_of, entry}
use Rattle.fr_lpc.specs.Reflection.{next_p, next_k}

-- the places below m have the new values, and the others the old ones
pub record Over (f : ℕ → ℤ) (old xs : List ℤ) (m : ℕ) : Type 0 where
  pub count : length xs ≡ 9
  pub written : (j : ℕ) → j < m → get_or xs j (pos 0) ≡ f j
  pub kept : (j : ℕ) → m ≤ j → get_or xs j (pos 0) ≡ get_or old j (pos 0)

-- one entry more is made anew
pub over_next : (f : ℕ → ℤ) (old xs : List ℤ) (m : ℕ) (x : ℤ) → m < 9 → Over f old xs m → x ≡ f m → Over f old (set xs m x) (m + 1)
over_next f old xs m x l h e =
    let count = h.count in
    record {
      count = length-set xs m x ∙ count;
      written = λ j b. elim (cases_eq j m) [
        | inl s ↦ rw s (get_or-set_same xs m x (pos 0) (omega arith) ∙ e)
        | inr n ↦ get_or-set_other xs m j x (pos 0) n ∙ h.written j (omega arith)
      ];
      kept = λ j b. get_or-set_other xs m j x (pos 0) (omega arith) ∙ h.kept j (omega arith);
    }

-- the first place is written, or is as it should be
pub over_first : (f : ℕ → ℤ) (old : List ℤ) (x : ℤ) → length old ≡ 9 → x ≡ f 0 → Over f old (set old 0 x) 1
over_first f old x l e = over_next f old old 0 x (omega arith) (record { count = l; written = λ j b. absurd (omega arith); kept = λ j b. refl }) e

pub over_same : (f : ℕ → ℤ) (old : List ℤ) → length old ≡ 9 → get_or old 0 (pos 0) ≡ f 0 → Over f old old 1
over_same f old l e = record {
  count = l;
  written = λ j b. let first : j ≡ 0 = omega arith in rw first e;
  kept = λ j b. refl;
}

-- what is not written is as it was
pub over_end : (f : ℕ → ℤ) (old xs : List ℤ) (m : ℕ) → Over f old xs m → ((j : ℕ) → m ≤ j → get_or old j (pos 0) ≡ f j) → xs ≡ map f (range_with_len 0 9)
over_end f old xs m h same =
    fill_by_all f xs 9 (pos 0) h.count (λ j b. elim (cases_lt j m) [ inl l ↦ h.written j l | inr g ↦ h.kept j g ∙ same j g ])

-- the values of a place that the loop writes
pub next_p-within : (p k : List ℤ) (r : ℤ) (left m : ℕ) → 1 ≤ m → m ≤ left → add_of (entry p (m + 1)) (mult_r_of r (entry k m)) ≡ next_p left r p k m
next_p-within p k r left m a b = grind (arith, common_steps)

-- what the step makes of K within the coefficients that are left, and past them
pub next_k-within : (p k : List ℤ) (r : ℤ) (left m : ℕ) → 1 ≤ m → m ≤ left → add_of (entry k m) (mult_r_of r (entry p (m + 1))) ≡ next_k left r p k m
next_k-within p k r left m a b = grind (arith, common_steps)

-- and of one after the last
pub next_p-past : (p k : List ℤ) (r : ℤ) (left m j : ℕ) → left + 1 ≤ m → m ≤ j → entry p j ≡ next_p left r p k j
next_p-past p k r left m j a b = grind (arith, common_steps)

pub next_k-past : (p k : List ℤ) (r : ℤ) (left m j : ℕ) → left + 1 ≤ m → m ≤ j → entry k j ≡ next_k left r p k j
next_k-past p k r left m j a b = grind (arith, common_steps)
