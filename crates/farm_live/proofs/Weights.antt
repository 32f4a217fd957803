-- Weights, and the numbers of callers.
use Rattle.std.proofs.Common.{◌≡◌, ◌≢◌, ℕ, zero, suc, ◌+◌, ◌*◌, ◌≤◌, ◌<◌, true, false, ◌==◌, List, [], ◌∷◌, set, length, sym, refl, ap, ⊎_elim, mul-add}
use Rattle.std.proofs.Common.{arith}
use mathlib.Core.Option.{some, some-ne-none}
use lib.ListN.{get_elem?}
use Rattle.std.proofs.lemmas.Bool.{cases_Bool, eqb-true}
use Rattle.farm_live.specs.declared.slot.View.{View}
use Rattle.farm_live.specs.Book.{BookState, record_of, most_posts}
use Rattle.trau_num.specs.Weights.{weigh}
use Rattle.trau_num.proofs.Weights.{weigh_set, at-le}
use Rattle.farm_live.specs.Slot.{bit, is_at, times, ascending, all_callers, FitsBook}

-- ---- weights

-- two items together weigh no more than the list
pub both-le : {X : Type 0} (f : X → ℕ) (xs : List X) (i j : ℕ) (v u : X) → j ≢ i → get_elem? xs i ≡ some v → get_elem? xs j ≡ some u → f v + f u ≤ weigh f xs
both-le f [] zero j v u ne a b = absurd (some-ne-none v (sym a))
both-le f [] (suc i) j v u ne a b = absurd (some-ne-none v (sym a))
both-le f (x ∷ xs) zero zero v u ne a b = absurd (ne refl)
both-le f (x ∷ xs) zero (suc j) v u ne a b = let s : x ≡ v = cc in let t : f x ≡ f v = ap f s in omega (arith, at-le f xs j u b)
both-le f (x ∷ xs) (suc i) zero v u ne a b = let s : x ≡ u = cc in let t : f x ≡ f u = ap f s in omega (arith, at-le f xs i v a)
both-le f (x ∷ xs) (suc i) (suc j) v u ne a b = omega (arith, both-le f xs i j v u (λ e. ne (ap suc e)) a b)

-- each weighs so many times the other at most, and so all together
pub weigh-le : {X : Type 0} (n : ℕ) (f g : X → ℕ) (xs : List X) → ((j : ℕ) (x : X) → get_elem? xs j ≡ some x → f x ≤ n * g x) → weigh f xs ≤ n * weigh g xs
weigh-le n f g [] each = omega arith
weigh-le n f g (x ∷ xs) each =
    let first = each 0 x refl in
    let rest = weigh-le n f g xs (λ j y e. each (suc j) y e) in
    let parts = mul-add n (g x) (weigh g xs) in
    omega arith

-- where each item weighs nothing, so does the list
pub none_weigh : {X : Type 0} (f : X → ℕ) (xs : List X) → ((j : ℕ) (x : X) → get_elem? xs j ≡ some x → f x ≡ 0) → weigh f xs ≡ 0
none_weigh f [] each = refl
none_weigh f (x ∷ xs) each = let first = each 0 x refl in let rest = none_weigh f xs (λ j y e. each (suc j) y e) in omega arith

-- ---- callers' numbers

-- no number before the first is among numbers in order
pub none_before : (c k n : ℕ) → c < k → times c (ascending k n) ≡ 0
none_before c k zero lt = refl
none_before c k (suc n) lt = ⊎_elim (λ (e : (k == c) ≡ true). absurd (let q : k ≡ c = eqb-true k c e in omega arith))
    (λ (e : (k == c) ≡ false). let q : bit (k == c) ≡ 0 = ap bit e in omega (arith, none_before c (suc k) n (omega arith))) (cases_Bool (k == c))

-- each number is among them at most once
pub once_each : (c k n : ℕ) → times c (ascending k n) ≤ 1
once_each c k zero = omega arith
once_each c k (suc n) = ⊎_elim (λ (e : (k == c) ≡ true). let q : bit (k == c) ≡ 1 = ap bit e in let s : k ≡ c = eqb-true k c e in omega
    (arith, none_before c (suc k) n (omega arith)))
    (λ (e : (k == c) ≡ false). let q : bit (k == c) ≡ 0 = ap bit e in omega (arith, once_each c (suc k) n)) (cases_Bool (k == c))

pub once : (c : ℕ) → weigh (is_at c) all_callers ≤ 1
unfolding all_callers
once c = once_each c 0 64

abbrev pub has : (ℕ → ℕ) → View → ℕ
has h v = weigh h v.callers

abbrev pub held : View → ℕ
held v = bit v.holds

-- a view that keeps its callers keeps all callers' weight
pub callers_set : (views : List View) (port : ℕ) (v w : View) → w.callers ≡ v.callers → get_elem? views port ≡ some v →
    ((h : ℕ → ℕ) → weigh (has h) views ≡ weigh h all_callers)
    → (h : ℕ → ℕ) → weigh (has h) (set views port w) ≡ weigh h all_callers
callers_set views port v w same at all h = let e : has h w ≡ has h v = ap (weigh h) same in omega (arith, all h, weigh_set (has h) views port v w at, e)

abbrev pub posts_made : View → ℕ
posts_made v = length v.made

-- no more posts are made than the callers may make
pub all_callers_are : weigh (λ _. 1) all_callers ≡ 64
unfolding all_callers
all_callers_are = refl

-- all views made at most so many posts
pub few_posts : (now : BookState) (views : List View) → ((j : ℕ) (v : View) → get_elem? views j ≡ some v → FitsBook now v) →
    ((h : ℕ → ℕ) → weigh (has h) views ≡ weigh h all_callers)
    → length (record_of now) ≡ weigh posts_made views → length (record_of now) ≤ most_posts
few_posts now views fit all total =
    let le = weigh-le 16777216 posts_made (has (λ _. 1)) views (λ j v e. (fit j v e).few) in
    let callers = all (λ _. 1) in
    let count = all_callers_are in
    omega arith

-- no callers
pub no_callers : (cs : List ℕ) → weigh (λ _. 1) cs ≡ 0 → cs ≡ []
no_callers [] e = refl
no_callers (c ∷ cs) e = absurd (omega arith)
