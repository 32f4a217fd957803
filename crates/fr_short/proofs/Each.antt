-- Lists of words, by place.
use Rattle.std.proofs.Common.{◌≡◌, ℕ, ◌<◌, suc, ℤ, pos, get_or, set, length, List, [], ◌∷◌, refl, arith, sym, subst, inl, inr}
use Rattle.std.proofs.lemmas.Bool.{cases_eq}
use Rattle.std.proofs.lemmas.List.{get_or-set_same, get_or-set_other}

-- each of the first n places meets P
abbrev pub Each : (ℤ → Type 0) → List ℤ → ℕ → Type 0
Each P xs n = (k : ℕ) → k < n → P (get_or xs k (pos 0))

-- a write of a number that meets P keeps this
pub each_set : (P : ℤ → Type 0) (xs : List ℤ) (n i : ℕ) (x : ℤ) → i < length xs → Each P xs n → P x → Each P (set xs i x) n
each_set P xs n i x l h p k b =
    elim (cases_eq k i) [
      | inl e ↦ let same : get_or (set xs i x) k (pos 0) ≡ x = rw e (get_or-set_same xs i x (pos 0) l) in subst P (sym same) p
      | inr ne ↦ subst P (sym (get_or-set_other xs i k x (pos 0) ne)) (h k b)
    ]

-- lists of one length that agree at each place are one
pub same_words : (xs ys : List ℤ) → length xs ≡ length ys → ((k : ℕ) → k < length xs → get_or xs k (pos 0) ≡ get_or ys k (pos 0)) → xs ≡ ys
same_words [] [] e h = refl
same_words [] (y ∷ ys) e h = absurd (omega arith)
same_words (x ∷ xs) [] e h = absurd (omega arith)
same_words (x ∷ xs) (y ∷ ys) e h =
    let here : x ≡ y = h 0 (omega arith) in
    let rest : xs ≡ ys = same_words xs ys (omega (arith, e)) (λ k l. h (suc k) (omega arith)) in
    cc
