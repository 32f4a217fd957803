-- A loop that overwrites a list from the front.
use Rattle.std.proofs.Common.{◌≡◌, ℕ, ℤ, ◌+◌, ◌<◌, ◌≤◌, pos, get_or, set, length, List, refl, ◌∙◌, arith, inl, inr}
use Rattle.std.proofs.lemmas.List.{length-set, get_or-set_same, get_or-set_other}
use Rattle.std.proofs.lemmas.Bool.{cases_eq}

-- the places below k have the new values, and the others the old ones
pub record Over (f : ℕ → ℤ) (old xs : List ℤ) (k : ℕ) : Type 0 where
  pub count : length xs ≡ 160
  pub written : (j : ℕ) → j < k → get_or xs j (pos 0) ≡ f j
  pub kept : (j : ℕ) → k ≤ j → get_or xs j (pos 0) ≡ get_or old j (pos 0)

-- nothing made anew yet, and one item more
pub over_start : (f : ℕ → ℤ) (old : List ℤ) → length old ≡ 160 → Over f old old 0
over_start f old l = record { count = l; written = λ j b. absurd (omega arith); kept = λ j b. refl }

pub over_next : (f : ℕ → ℤ) (old xs : List ℤ) (k : ℕ) (x : ℤ) → k < 160 → Over f old xs k → x ≡ f k → Over f old (set xs k x) (k + 1)
over_next f old xs k x l h e =
    let count = h.count in
    record {
      count = length-set xs k x ∙ count;
      written = λ j b. elim (cases_eq j k) [
        | inl s ↦ rw s (get_or-set_same xs k x (pos 0) (omega arith) ∙ e)
        | inr n ↦ get_or-set_other xs k j x (pos 0) n ∙ h.written j (omega arith)
      ];
      kept = λ j b. get_or-set_other xs k j x (pos 0) (omega arith) ∙ h.kept j (omega arith);
    }
