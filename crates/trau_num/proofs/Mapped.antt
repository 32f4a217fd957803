-- For crates above: a loop over samples in place maps them (`over_more`, `over_all`).
use Rattle.std.proofs.Common.{◌≡◌, ℕ, ℤ, ◌+◌, ◌<◌, ◌≤◌, pos, set, length, take, drop, List, [], ◌++◌, map, ap, ◌∙◌, arith, length-append, length-take-le}
use Rattle.std.proofs.Common.{length-drop}
use Rattle.std.proofs.lemmas.List.{drop_all, take_all, append-nil, get_or_default, length-map}
use Rattle.std.proofs.lemmas.List.Edits.{map_over_more}
use Rattle.trau_num.specs.Num.{entry}

-- one sample more, behind the first i
pub over_more : (f : ℤ → ℤ) (xs ys : List ℤ) (i : ℕ) (y : ℤ) → i < length xs → ys ≡ map f (take i xs) ++ drop i xs → y ≡ f (entry ys i) →
    set ys i y ≡ map f (take (i + 1) xs) ++ drop (i + 1) xs
over_more f xs ys i y l h e =
    let count : length (map f (take i xs) ++ drop i xs) ≡ length xs =
    omega (arith, length-append (map f (take i xs)) (drop i xs), length-map (take i xs) f, length-take-le i xs (omega arith), length-drop i xs) in
    let m : i < length ys = omega (arith, ap (λ (zs : List ℤ). length zs) h, count) in
    ap (set ys i) e ∙ map_over_more f xs ys i (entry ys i) l h (get_or_default ys i (pos 0) (entry ys i) m)

-- all of them
pub over_all : (f : ℤ → ℤ) (xs ys : List ℤ) (i : ℕ) → length xs ≤ i → ys ≡ map f (take i xs) ++ drop i xs → ys ≡ map f xs
over_all f xs ys i l h =
    let front : take i xs ≡ xs = take_all i xs l in
    let back : drop i xs ≡ [] = drop_all i xs l in
    rw (front, back) at h ∙ append-nil (map f xs)
