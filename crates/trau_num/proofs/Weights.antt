-- For crates above: the summed weight of two lists in a row (`weigh-append`), and of a list that changes at one index
-- (`weigh_set`).
use Rattle.std.proofs.Common.{◌≡◌, ℕ, zero, suc, ◌+◌, ◌≤◌, List, [], ◌∷◌, ◌++◌, set, sym, ap, arith}
use mathlib.Core.Option.{some, some-ne-none}
use lib.ListN.{get_elem?}
use Rattle.trau_num.specs.Weights.{weigh}

-- two lists, one behind the other
pub weigh-append : {X : Type 0} (h : X → ℕ) (xs ys : List X) → weigh h (xs ++ ys) ≡ weigh h xs + weigh h ys
weigh-append h [] ys = omega arith
weigh-append h (x ∷ xs) ys = omega (arith, weigh-append h xs ys)

-- the weight of a list whose item at an index changes
pub weigh_set : {X : Type 0} (f : X → ℕ) (xs : List X) (port : ℕ) (v w : X) → get_elem? xs port ≡ some v → weigh f (set xs port w) + f v ≡ weigh f xs + f w
weigh_set f [] zero v w e = absurd (some-ne-none v (sym e))
weigh_set f [] (suc j) v w e = absurd (some-ne-none v (sym e))
weigh_set f (x ∷ xs) zero v w e = let s : x ≡ v = cc in let t : f x ≡ f v = ap f s in omega arith
weigh_set f (x ∷ xs) (suc j) v w e = omega (arith, weigh_set f xs j v w e)

-- no item weighs more than the list
pub at-le : {X : Type 0} (f : X → ℕ) (xs : List X) (port : ℕ) (v : X) → get_elem? xs port ≡ some v → f v ≤ weigh f xs
at-le f [] zero v e = absurd (some-ne-none v (sym e))
at-le f [] (suc j) v e = absurd (some-ne-none v (sym e))
at-le f (x ∷ xs) zero v e = let s : x ≡ v = cc in let t : f x ≡ f v = ap f s in omega arith
at-le f (x ∷ xs) (suc j) v e = omega (arith, at-le f xs j v e)
