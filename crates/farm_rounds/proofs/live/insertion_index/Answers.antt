use Rattle.std.proofs.Common.{◌≡◌, ◌⊎◌, ◌<◌, ◌≤◌, sym, refl, ◌∙◌, ℕ, List, length, get_or, false, Result, Ok, Err, inl, inr}
use Rattle.std.specs.List.Sorted.{IsBinarySearchResult}
use Rattle.std.specs.Ordering.{nat_cmp}
use Rattle.std.proofs.lemmas.Bool.{false≢true}
use Rattle.farm_rounds.specs.Numbers.{IsRising, is_among}
use Rattle.farm_rounds.proofs.Places.Rising.{place_found, place_free, there}
use Rattle.farm_rounds.proofs.live.insertion_index.Goals as goal

-- a search for a number that isn't there finds none
free : (xs : List ℕ) (x : ℕ) (r : Result ℕ ℕ) (i : ℕ) → IsRising xs → is_among xs x ≡ false → IsBinarySearchResult (λ y. nat_cmp y x) xs r →
    (r ≡ Ok i) ⊎ (r ≡ Err i) → (i ≤ length xs) × ((k : ℕ) → k < i → get_or xs k 0 < x) × ((k : ℕ) → i ≤ k → k < length xs → x < get_or xs k 0)
free xs x r i rising absent h either = elim either [
  | inl q ↦ let s = place_found xs xs x r refl rising h i q in absurd (false≢true (sym absent ∙ there xs x i s.0 s.1))
  | inr q ↦ place_free xs xs x r refl rising h i q
]

pub returns-in-Ok-clause-above : goal.returns-in-Ok-clause-above
returns-in-Ok-clause-above c =
    (free c.args.numbers.now c.args.number c.binary_search.result c.in-Ok.index c.requires.rising c.requires.absent c.binary_search.ensures.position c.in-Ok.is).2

pub returns-in-Ok-2-clause-below : goal.returns-in-Ok-2-clause-below
returns-in-Ok-2-clause-below c =
    (free c.args.numbers.now c.args.number c.binary_search.result c.in-Ok.index c.requires.rising c.requires.absent c.binary_search.ensures.position c.in-Ok.is).1

pub returns-in-Ok-2-clause-above : goal.returns-in-Ok-2-clause-above
returns-in-Ok-2-clause-above c =
    (free c.args.numbers.now c.args.number c.binary_search.result c.in-Ok.index c.requires.rising c.requires.absent c.binary_search.ensures.position c.in-Ok.is).2
