-- Weights of lists, added up.
use Rattle.std.proofs.Common.{◌≡◌, ℕ, zero, suc, ◌+◌, ◌<◌, List, [], ◌∷◌, length, map, set, get_or, sym, refl, ap, arith}
use Rattle.std.specs.List.{sum_by}
use Rattle.std.specs.List.Sorted.{IsPermutation}
use Rattle.std.proofs.lemmas.List.Sums.{sum_by-cons}
use Rattle.std.proofs.lemmas.List.Sorted.{sum_by-IsPermutation}
use mathlib.Core.Option.{some, some-ne-none}
use lib.ListN.{get_elem?}
use Rattle.trau_num.specs.Weights.{weigh}
use Rattle.trau_num.proofs.Weights.{at-le}

-- where one has all of p, and f is 0 of each that has none, the total of f is that one's
module _ {X : Type 0} (p f : X → ℕ) where
  none : (xs : List X) → ((j : ℕ) (u : X) → get_elem? xs j ≡ some u → p u ≡ 0 → f u ≡ 0) → weigh p xs ≡ 0 → weigh f xs ≡ 0
  none [] unused e = refl
  none (x ∷ xs) unused e = let a : f x ≡ 0 = unused 0 x refl (omega arith) in let b = none xs (λ j u at. unused (suc j) u at) (omega arith) in omega arith

  pub alone : (xs : List X) (port : ℕ) (v : X) → get_elem? xs port ≡ some v → ((j : ℕ) (u : X) → get_elem? xs j ≡ some u → p u ≡ 0 → f u ≡ 0) →
      weigh p xs ≡ p v → weigh f xs ≡ f v
  alone [] zero v e unused all = absurd (some-ne-none v (sym e))
  alone [] (suc j) v e unused all = absurd (some-ne-none v (sym e))
  alone (x ∷ xs) zero v e unused all =
      let s : x ≡ v = cc in let t : f x ≡ f v = ap f s in let q : p x ≡ p v = ap p s in
      let b = none xs (λ j u at. unused (suc j) u at) (omega arith) in omega arith
  alone (x ∷ xs) (suc j) v e unused all =
      let le = at-le p xs j v e in
      let a : f x ≡ 0 = unused 0 x refl (omega arith) in
      let b = alone xs j v e (λ k u at. unused (suc k) u at) (omega arith) in omega arith

-- the same, by the place
pub weigh-set : {X : Type 0} (f : X → ℕ) (xs : List X) (i : ℕ) (y d : X) → i < length xs → weigh f (set xs i y) + f (get_or xs i d) ≡ weigh f xs + f y
weigh-set f [] i y d h = absurd (omega arith)
weigh-set f (x ∷ xs) zero y d h = omega arith
weigh-set f (x ∷ xs) (suc i) y d h = omega (arith, weigh-set f xs i y d (omega arith))

-- items that weigh 1 each weigh as many as they are
pub weigh_ones : {X : Type 0} (f : X → ℕ) (xs : List X) → ((i : ℕ) (d : X) → i < length xs → f (get_or xs i d) ≡ 1) → weigh f xs ≡ length xs
weigh_ones f [] each = refl
weigh_ones f (x ∷ xs) each = omega (arith, weigh_ones f xs (λ i d h. each (suc i) d (omega arith)), each 0 x (omega arith))

pub weigh_zeros : {X : Type 0} (f : X → ℕ) (xs : List X) → ((i : ℕ) (d : X) → i < length xs → f (get_or xs i d) ≡ 0) → weigh f xs ≡ 0
weigh_zeros f [] each = refl
weigh_zeros f (x ∷ xs) each = omega (arith, weigh_zeros f xs (λ i d h. each (suc i) d (omega arith)), each 0 x (omega arith))

pub weigh-sum_by : {X : Type 0} (f : X → ℕ) (xs : List X) → weigh f xs ≡ sum_by f xs
weigh-sum_by f [] = refl
weigh-sum_by f (x ∷ xs) = omega (arith, weigh-sum_by f xs, sum_by-cons f x xs)

pub weigh-map : {X Y : Type 0} (h : Y → ℕ) (f : X → Y) (xs : List X) → weigh h (map f xs) ≡ weigh (λ x. h (f x)) xs
weigh-map h f [] = refl
weigh-map h f (x ∷ xs) = omega (arith, weigh-map h f xs)

pub weigh-permutation : {X : Type 0} (f : X → ℕ) (xs ys : List X) → IsPermutation xs ys → weigh f ys ≡ weigh f xs
weigh-permutation f xs ys p = omega (arith, weigh-sum_by f xs, weigh-sum_by f ys, sum_by-IsPermutation f xs ys p)

-- the same, of the weight 1
pub weigh_all : {X : Type 0} (xs : List X) → weigh (λ _. 1) xs ≡ length xs
weigh_all xs = weigh_ones (λ _. 1) xs (λ i d h. refl)
