-- For crates above: lists, place by place.
use Rattle.std.proofs.Common.{◌≡◌, ◌≢◌, ℕ, zero, suc, ◌<◌, ◌≤◌, List, [], ◌∷◌, ◌++◌, length, set, get_or, get_or-set_same, get_or-set_other, sym, refl, subst}
use Rattle.std.proofs.Common.{⊎_elim, arith, length-append}
use Rattle.std.proofs.Math.ListN.{length-set, take}
use Rattle.std.proofs.Math.Seq.{take-append_seam, get_or-append_seam}
use Rattle.std.proofs.lemmas.Bool.{cases_eq, cases_lt}
use Rattle.std.proofs.lemmas.List.{get_or_append_left}

-- a property of each place after a write to one
pub each_set : {X : Type 0} (P : ℕ → X → Type 0) (xs : List X) (i : ℕ) (y : X) → i < length xs → P i y →
    ((j : ℕ) (d : X) → j < length xs → P j (get_or xs j d)) → (j : ℕ) (d : X) → j < length (set xs i y) → P j (get_or (set xs i y) j d)
each_set P xs i y there new old j d in_range =
    let in_range' : j < length xs = omega (arith, length-set xs i y) in
    ⊎_elim (λ (e : j ≡ i). subst (λ (k : ℕ). P k (get_or (set xs i y) k d)) (sym e) (subst (P i) (sym (get_or-set_same xs i y d there)) new))
    (λ (ne : j ≢ i). subst (P j) (sym (get_or-set_other xs i j y d ne)) (old j d in_range')) (cases_eq j i)

-- a property of each place of a list that is one longer
pub each_snoc : {X : Type 0} (P : ℕ → X → Type 0) (xs : List X) (y : X) → ((i : ℕ) (d : X) → i < length xs → P i (get_or xs i d)) → P (length xs) y →
    (i : ℕ) (d : X) → i < length (xs ++ y ∷ []) → P i (get_or (xs ++ y ∷ []) i d)
each_snoc P xs y old new i d h = ⊎_elim (λ (lt : i < length xs). subst (P i) (sym (get_or_append_left xs (y ∷ []) d i lt)) (old i d lt))
    (λ (le : length xs ≤ i). let e : length xs ≡ i = omega (arith, length-append xs (y ∷ [])) in subst (λ (k : ℕ). P k (get_or (xs ++ y ∷ []) k d)) e
    (subst (P (length xs)) (sym (get_or-append_seam xs y [] d)) new)) (cases_lt i (length xs))

-- what is read within a list doesn't go by what stands for nothing
pub same_default : {X : Type 0} (xs : List X) (i : ℕ) (a b : X) → i < length xs → get_or xs i a ≡ get_or xs i b
same_default [] i a b h = absurd (omega arith)
same_default (x ∷ xs) zero a b h = refl
same_default (x ∷ xs) (suc i) a b h = same_default xs i a b (omega arith)

-- a list without a length has no items
pub no_items : {X : Type 0} (xs : List X) → length xs ≡ 0 → xs ≡ []
no_items [] e = refl
no_items (x ∷ xs) e = absurd (omega arith)

-- a list that was lent in part, and is back
pub written_back : {X : Type 0} (xs rest : List X) (n : ℕ) → length xs ≡ n → take n (xs ++ rest) ≡ xs
written_back xs rest n e = subst (λ (k : ℕ). take k (xs ++ rest) ≡ xs) e (take-append_seam xs rest)
