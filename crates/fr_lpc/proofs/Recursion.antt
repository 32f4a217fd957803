-- The recursion that finds the reflection coefficients one by one.
use Rattle.std.proofs.Common.{◌≡◌, ℕ, suc, ℤ, ◌+◌, ◌-◌, ◌<◌, ◌≤◌, pos, true, false, get_or, set, length, List, [], ◌∷◌, ◌++◌, take, drop, replicate, int_lt}
use Rattle.std.proofs.Common.{refl, sym, ap, ◌∙◌, arith}
use Rattle.std.proofs.lemmas.List.{get_or-drop, length-drop, take_more_set, take_all, append_assoc, append-nil, take-append-drop}
use Rattle.trau_num.specs.Num.{abs_of, entry}
use Rattle.fr_lpc.specs.Reflection.{coefficient_of, p_after, k_after, coefficients_from}

-- a list of zeros
all_zeros : (xs : List ℤ) → ((j : ℕ) → get_or xs j (pos 0) ≡ pos 0) → xs ≡ replicate (length xs) (pos 0)
all_zeros [] h = refl
all_zeros (x ∷ xs) h =
    let here : x ≡ pos 0 = h 0 in
    let rest : xs ≡ replicate (length xs) (pos 0) = all_zeros xs (λ j. h (suc j)) in
    cc

-- where P[0] is below the magnitude of P[1], all coefficients from here on are 0
stops : (left : ℕ) (p k : List ℤ) → int_lt (entry p 0) (abs_of (entry p 1)) ≡ true → coefficients_from (suc left) p k ≡ replicate (suc left) (pos 0)
unfolding coefficients_from
stops left p k h = rw h refl

-- one coefficient found, and the rest from there
goes_on : (left : ℕ) (p k : List ℤ) (r : ℤ) → int_lt (entry p 0) (abs_of (entry p 1)) ≡ false → r ≡ coefficient_of (entry p 0) (entry p 1) →
    coefficients_from (suc left) p k ≡ r ∷ coefficients_from left (p_after left r p k) (k_after left r p k)
unfolding coefficients_from
goes_on left p k r h e = rw (h, e) refl

-- what was found, and zeros, is the whole
pub stopped : (rs p k whole : List ℤ) (n : ℕ) → length rs ≡ 8 → n < 8 → ((j : ℕ) → n ≤ j → get_or rs j (pos 0) ≡ pos 0) →
    int_lt (entry p 0) (abs_of (entry p 1)) ≡ true → take n rs ++ coefficients_from (8 - n) p k ≡ whole → rs ≡ whole
stopped rs p k whole n l b zeros h e =
    let left : 8 - n ≡ suc (7 - n) = omega arith in
    let count : length (drop n rs) ≡ suc (7 - n) = omega (arith, length-drop n rs) in
    let tail = all_zeros (drop n rs) (λ j. get_or-drop n rs j (pos 0) ∙ zeros (n + j) (omega arith)) in
    let same : drop n rs ≡ coefficients_from (8 - n) p k =
    tail ∙ ap (λ m. replicate m (pos 0)) count ∙ sym (stops (7 - n) p k h) ∙ ap (λ m. coefficients_from m p k) (sym left) in
    sym (take-append-drop n rs) ∙ ap (λ xs. take n rs ++ xs) same ∙ e

-- one coefficient more
pub found : (rs p k whole : List ℤ) (r : ℤ) (n : ℕ) → length rs ≡ 8 → n < 8 → int_lt (entry p 0) (abs_of (entry p 1)) ≡ false →
    r ≡ coefficient_of (entry p 0) (entry p 1) → take n rs ++ coefficients_from (8 - n) p k ≡ whole →
    take (n + 1) (set rs n r) ++ coefficients_from (8 - (n + 1)) (p_after (7 - n) r p k) (k_after (7 - n) r p k) ≡ whole
found rs p k whole r n l b h e w =
    let left : 8 - n ≡ suc (7 - n) = omega arith in
    let rest : 8 - (n + 1) ≡ 7 - n = omega arith in
    let more : coefficients_from (8 - n) p k ≡ r ∷ coefficients_from (7 - n) (p_after (7 - n) r p k) (k_after (7 - n) r p k) =
    ap (λ m. coefficients_from m p k) left ∙ goes_on (7 - n) p k r h e in
    let front : take (n + 1) (set rs n r) ≡ take n rs ++ r ∷ [] = take_more_set rs n r (omega arith) in
    rw (rest, front) (append_assoc (take n rs) (r ∷ []) _ ∙ ap (λ xs. take n rs ++ xs) (sym more) ∙ w)

-- all eight are found
pub finished : (rs p k whole : List ℤ) (n : ℕ) → length rs ≡ 8 → 8 ≤ n → take n rs ++ coefficients_from (8 - n) p k ≡ whole → rs ≡ whole
unfolding coefficients_from
finished rs p k whole n l b w =
    let none : 8 - n ≡ 0 = omega arith in
    let e : take n rs ++ coefficients_from 0 p k ≡ whole = ap (λ m. take n rs ++ coefficients_from m p k) (sym none) ∙ w in
    sym (append-nil rs) ∙ ap (λ xs. xs ++ []) (sym (take_all n rs (omega arith))) ∙ e
