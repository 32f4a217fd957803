-- What spans in order say of a period before and after each.
use Rattle.std.proofs.Common.{◌≡◌, refl, ap, ◌∙◌, ℕ, ◌+◌, ◌-◌, ◌<◌, ◌≤◌, true, false, ◌||◌, ◌&&◌, nat_le, nat_lt, Some, None, List, [], ◌∷◌, get_or, arith}
use Rattle.std.proofs.lemmas.Bool.{lt-leb, le-leb, lt-ltb, le-ltb, eq-eqb, ne_eqb, cond-true, cond-false, and_right}
use Rattle.call_spec.specs.Call.{Span, item_at, starts_at}
use Rattle.call_spec.specs.Whole.{AreSpans}

-- before a span the others decide
pub head_early : (span : Span) (spans : List Span) (k : ℕ) → k < span.from → item_at (span ∷ spans) k ≡ item_at spans k
head_early span spans k l =
    cond-false (nat_le span.from k && nat_lt k span.to) (Some (get_or span.items (k - span.from) [])) (item_at spans k)
    (ap (λ b. b && nat_lt k span.to) (lt-leb span.from k l))

-- and behind it
pub head_late : (span : Span) (spans : List Span) (k : ℕ) → span.to ≤ k → item_at (span ∷ spans) k ≡ item_at spans k
head_late span spans k l =
    cond-false (nat_le span.from k && nat_lt k span.to) (Some (get_or span.items (k - span.from) [])) (item_at spans k)
    (and_right (nat_le span.from k) (nat_lt k span.to) (le-ltb k span.to l))

-- within it, its item
pub head_inside : (span : Span) (spans : List Span) (k : ℕ) → span.from ≤ k → k < span.to →
    item_at (span ∷ spans) k ≡ Some (get_or span.items (k - span.from) [])
head_inside span spans k l m =
    cond-true (nat_le span.from k && nat_lt k span.to) (Some (get_or span.items (k - span.from) [])) (item_at spans k)
    (ap (λ b. b && nat_lt k span.to) (le-leb span.from k l) ∙ lt-ltb k span.to m)

-- before all spans nothing is handed over
pub item-none : (low n k : ℕ) (spans : List Span) → AreSpans low n spans → k < low → item_at spans k ≡ None
item-none low n k [] h l = refl
item-none low n k (span ∷ spans) h l =
    let from = h.0 in
    let count = h.3 in
    head_early span spans k (omega arith) ∙ item-none (span.to + 1) n k spans h.4 (omega arith)

-- where this one does not start the others decide
pub starts-other : (span : Span) (spans : List Span) (k : ℕ) → (span.from ≡ k → ⊥) → starts_at (span ∷ spans) k ≡ starts_at spans k
starts-other span spans k d = ap (λ b. b || starts_at spans k) (ne_eqb span.from k d)

-- it starts here
pub starts-here : (span : Span) (spans : List Span) (k : ℕ) → span.from ≡ k → starts_at (span ∷ spans) k ≡ true
starts-here span spans k e = ap (λ b. b || starts_at spans k) (eq-eqb span.from k e)

-- before all spans none starts
pub starts-none : (low n k : ℕ) (spans : List Span) → AreSpans low n spans → k < low → starts_at spans k ≡ false
starts-none low n k [] h l = refl
starts-none low n k (span ∷ spans) h l =
    let from = h.0 in
    let count = h.3 in
    starts-other span spans k (λ e. omega arith) ∙ starts-none (span.to + 1) n k spans h.4 (omega arith)
