-- For crates above: an item of a list of numbers is among it, as a test (`there`).
-- Lists of numbers that rise.
use Rattle.std.proofs.Common.{◌≡◌, subst, ℕ, ◌+◌, ◌-◌, ◌<◌, ◌≤◌, zero, suc, true, false, List, length, get_or, arith, inl, inr, Result, Ok, Err}
use Rattle.std.specs.Prelude.{◌==◌}
use Rattle.std.specs.List.{insert, remove}
use Rattle.std.specs.List.Sorted.{IsBinarySearchResult}
use Rattle.std.specs.Ordering.{nat_cmp}
use Rattle.std.specs.Result.{MatchResult}
use Rattle.std.proofs.lemmas.Bool.{eq-eqb, ne_eqb, cases_order, cases_lt}
use Rattle.std.proofs.lemmas.List.Edits.{length-insert, length-remove, get_or-insert_at, get_or-insert_below, get_or-insert_above, get_or-remove_below}
use Rattle.std.proofs.lemmas.List.Edits.{get_or-remove_above}
use Rattle.std.proofs.lemmas.List.Sorted.{searched}
use Rattle.std.proofs.lemmas.List.Folds.{list_any_none, list_any_at}
use Rattle.std.proofs.lemmas.List.Elements.{All-from_get_or}
use Rattle.farm_rounds.specs.Numbers.{IsRising, is_among}

-- what a search finds
pub searched_rising : (xs : List ℕ) (x : ℕ) (r : Result ℕ ℕ) → IsRising xs → IsBinarySearchResult (λ y. nat_cmp y x) xs r →
    MatchResult r (λ i. (i < length xs) × (get_or xs i 0 ≡ x))
    (λ i. (i ≤ length xs) × ((k : ℕ) → k < i → get_or xs k 0 < x) × ((k : ℕ) → i ≤ k → k < length xs → x < get_or xs k 0))
searched_rising xs x r rising h = searched xs x r h (λ i j l b. elim (cases_order i j) [
  | inl e ↦ subst (λ (k : ℕ). get_or xs i 0 ≤ get_or xs k 0) e (omega arith)
  | inr (inl l2) ↦ omega (arith, rising i j l2 b)
  | inr (inr m) ↦ absurd (omega arith)
])

-- the later of two numbers stands behind the place
rising-insert_above : (xs : List ℕ) (i y : ℕ) → IsRising xs → i ≤ length xs → ((k : ℕ) → k < i → get_or xs k 0 < y) →
    ((k : ℕ) → i ≤ k → k < length xs → y < get_or xs k 0) → (a k : ℕ) → i ≤ k → (b : ℕ) → b ≡ k + 1 → (a < b) × (k < length xs) →
    get_or (insert xs i y) a 0 < get_or (insert xs i y) b 0
rising-insert_above xs i y rising l below above a k ik b e h =
    let there : get_or (insert xs i y) b 0 ≡ get_or xs k 0 = rw e (get_or-insert_above xs i y 0 k ik l) in
    rw there (elim (cases_order a i) [
      | inl ea ↦ rw (ea, get_or-insert_at xs i y 0 l) (above k ik h.1)
      | inr (inl ai) ↦ rw (get_or-insert_below xs i y 0 a ai l) (rising a k (omega arith) h.1)
      | inr (inr ia) ↦ let same : (a - 1) + 1 ≡ a = omega arith in subst (λ (m : ℕ). get_or (insert xs i y) m 0 < get_or xs k 0) same
          (rw (get_or-insert_above xs i y 0 (a - 1) (omega arith) l) (rising (a - 1) k (omega arith) h.1))
    ])

-- a number put in where it belongs, and one taken out: the list still rises
pub rising-insert : (xs : List ℕ) (i y : ℕ) → IsRising xs → i ≤ length xs → ((k : ℕ) → k < i → get_or xs k 0 < y) →
    ((k : ℕ) → i ≤ k → k < length xs → y < get_or xs k 0) → IsRising (insert xs i y)
rising-insert xs i y rising l below above a b ab lb =
    let long : length (insert xs i y) ≡ length xs + 1 = length-insert xs i y l in
    elim (cases_lt b i) [
      | inl bi ↦ rw (get_or-insert_below xs i y 0 a (omega arith) l, get_or-insert_below xs i y 0 b bi l) (rising a b ab (omega arith))
      | inr ib ↦ elim (cases_order b i) [
        | inl e ↦ rw (e, get_or-insert_at xs i y 0 l, get_or-insert_below xs i y 0 a (omega arith) l) (below a (omega arith))
        | inr (inl bi) ↦ absurd (omega arith)
        | inr (inr ib1) ↦ rising-insert_above xs i y rising l below above a (b - 1) (omega arith) b (omega arith) (omega arith)
      ]
    ]

pub rising-remove : (xs : List ℕ) (i : ℕ) → IsRising xs → i < length xs → IsRising (remove xs i)
rising-remove xs i rising l a b ab lb =
    let long : length (remove xs i) + 1 ≡ length xs = length-remove xs i l in
    elim (cases_lt b i) [
      | inl bi ↦ rw (get_or-remove_below xs i 0 a (omega arith) l, get_or-remove_below xs i 0 b bi l) (rising a b ab (omega arith))
      | inr ib ↦ rw (get_or-remove_above xs i 0 b ib l) (elim (cases_lt a i) [
        | inl ai ↦ rw (get_or-remove_below xs i 0 a ai l) (rising a (b + 1) (omega arith) (omega arith))
        | inr ia ↦ rw (get_or-remove_above xs i 0 a ia l) (rising (a + 1) (b + 1) (omega arith) (omega arith))
      ])
    ]

-- where a number that is there stands, and where one that isn't goes
pub place_found : (xs ys : List ℕ) (x : ℕ) (r : Result ℕ ℕ) → ys ≡ xs → IsRising xs →
    IsBinarySearchResult (λ y. nat_cmp y x) ys r → (i : ℕ) → r ≡ Ok i → (i < length xs) × (get_or xs i 0 ≡ x)
place_found xs ys x r e rising h i q = rw q at (searched_rising xs x r rising (rw e at h))

-- a search that finds nothing tells where the number belongs
pub place_free : (xs ys : List ℕ) (x : ℕ) (r : Result ℕ ℕ) → ys ≡ xs → IsRising xs →
    IsBinarySearchResult (λ y. nat_cmp y x) ys r → (i : ℕ) → r ≡ Err i → (i ≤ length xs) × ((k : ℕ) → k < i → get_or xs k 0 < x)
    × ((k : ℕ) → i ≤ k → k < length xs → x < get_or xs k 0)
place_free xs ys x r e rising h i q = rw q at (searched_rising xs x r rising (rw e at h))

-- what stands in the list is among it
pub there : (xs : List ℕ) (x i : ℕ) → i < length xs → get_or xs i 0 ≡ x → is_among xs x ≡ true
there xs x i l e = list_any_at (λ y. y == x) xs i 0 l (eq-eqb _ _ e)

-- what lies between two that follow one another isn't
pub not_there : (xs : List ℕ) (x i : ℕ) → ((k : ℕ) → k < i → get_or xs k 0 < x) →
    ((k : ℕ) → i ≤ k → k < length xs → x < get_or xs k 0) → is_among xs x ≡ false
not_there xs x i below above = list_any_none (λ y. y == x) xs (All-from_get_or (λ y. (y == x) ≡ false) xs 0 (λ k l. elim (cases_lt k i) [
  | inl ki ↦ let less = below k ki in ne_eqb _ _ (λ q. absurd (omega arith))
  | inr ik ↦ let more = above k ik l in ne_eqb _ _ (λ q. absurd (omega arith))
]))

-- a number is no lower than its place
pub rising_far : (xs : List ℕ) (i : ℕ) → IsRising xs → 1 ≤ get_or xs 0 0 → i < length xs → i + 1 ≤ get_or xs i 0
rising_far xs zero rising low l = low
rising_far xs (suc i) rising low l =
    let less : get_or xs i 0 < get_or xs (suc i) 0 = rising i (suc i) (omega arith) l in
    let before : i + 1 ≤ get_or xs i 0 = rising_far xs i rising low (omega arith) in
    omega arith
