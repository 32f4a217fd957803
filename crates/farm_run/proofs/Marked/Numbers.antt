-- Lists of numbers that are filtered, and entries of each.
use Rattle.std.proofs.Common.{◌≡◌, refl, ap, ◌∙◌, ℕ, suc, ◌<◌, ◌≤◌, Bool, true, false, ◌&&◌, List, [], ◌∷◌, length, map, cond, arith}
use Rattle.std.specs.Prelude.{◌==◌, ◌||◌, filter, slice_index}
use Rattle.std.specs.List.{AllByRecursion}
use Rattle.farm_checkpoint.specs.declared.mark.MarkCall.{MarkCall}
use Rattle.farm_rounds.specs.Numbers.{IsRising, is_among}
use Rattle.farm_run.proofs.Reported.Rising.{Rises, has}
use Rattle.farm_run.proofs.Told.Next.{eqb-sym}

-- numbers of which each is below the later ones
pub rises_of : (m : ℕ) (xs : List ℕ) → ((i : ℕ) → i < length xs → m ≤ slice_index xs i) → IsRising xs → Rises m xs
rises_of m [] least rising = tt
rises_of m (x ∷ xs) least rising = (
  least 0 (omega arith),
  rises_of (suc x) xs (λ i l. let k = rising 0 (suc i) (omega arith) (omega arith) in omega (arith, k))
      (λ i j l k. rising (suc i) (suc j) (omega arith) (omega arith)),
)

-- two tests of whether a number is among some
pub has_among : (c : ℕ) (xs : List ℕ) → has c xs ≡ is_among xs c
has_among c [] = refl
has_among c (x ∷ xs) = ap (λ (b : Bool). b || has c xs) (eqb-sym c x) ∙ ap (λ (b : Bool). (x == c) || b) (has_among c xs)

-- one test behind another
twice_more : (p q : ℕ → Bool) (x : ℕ) (xs : List ℕ) → filter p (filter q xs) ≡ filter (λ c. q c && p c) xs → (b : Bool) →
    filter p (cond b (x ∷ filter q xs) (filter q xs)) ≡ cond (b && p x) (x ∷ filter (λ c. q c && p c) xs) (filter (λ c. q c && p c) xs)
twice_more p q x xs rest false = rest
twice_more p q x xs rest true = within (p x)
  where
    within : (b : Bool) →
        cond b (x ∷ filter p (filter q xs)) (filter p (filter q xs))
        ≡ cond b (x ∷ filter (λ c. q c && p c) xs) (filter (λ c. q c && p c) xs)
    within true = ap (λ (ys : List ℕ). x ∷ ys) rest
    within false = rest

-- two tests one after the other are one
pub filter_twice : (p q : ℕ → Bool) (xs : List ℕ) → filter p (filter q xs) ≡ filter (λ c. q c && p c) xs
filter_twice p q [] = refl
filter_twice p q (x ∷ xs) = twice_more p q x xs (filter_twice p q xs) (q x)

-- entries that are the same one by one are so as a list
pub map_each : (f g : ℕ → MarkCall) (xs : List ℕ) → AllByRecursion (λ c. f c ≡ g c) xs → map f xs ≡ map g xs
map_each f g [] e = refl
map_each f g (x ∷ xs) e = ap (λ (y : MarkCall). y ∷ map f xs) e.0 ∙ ap (λ (ys : List MarkCall). g x ∷ ys) (map_each f g xs e.1)
