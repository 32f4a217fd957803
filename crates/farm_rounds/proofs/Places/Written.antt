-- A slice of a whole list that was written back into it.
use Rattle.std.proofs.Common.{◌≡◌, ap, ◌∙◌, ℕ, List, [], ◌++◌, length, take, drop, arith}
use Rattle.std.proofs.lemmas.List.{drop_all, append-nil, take_all}

pub back : {X : Type 0} (n : ℕ) (new old : List X) → n ≡ length old → length new ≡ length old → take n (new ++ drop (length new) old) ≡ new
back n new old en e =
    let none : drop (length new) old ≡ [] = drop_all (length new) old (omega (arith, e)) in
    ap (λ (xs : List _). take n (new ++ xs)) none ∙ ap (λ (xs : List _). take n xs) (append-nil new) ∙ take_all n new (omega (arith, en, e))
