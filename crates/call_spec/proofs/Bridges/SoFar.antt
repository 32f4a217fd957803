-- The spans of the first periods of a call as a whole.
use Rattle.std.proofs.Common.{◌≡◌, refl, sym, ap, ◌∙◌, inl, inr, ℕ, ◌+◌, ◌-◌, ◌<◌, ◌≤◌, zero, suc, min, Bool, true, false, if◌then◌else◌, nat_lt, Option, Some}
use Rattle.std.proofs.Common.{None, List, [], ◌∷◌, ◌++◌, length, take, reverse, get_or, arith}
use Rattle.std.proofs.lemmas.Bool.{cases_lt, lt-ltb, le-ltb, cond-true, cond-false, true≢false}
use Rattle.std.proofs.lemmas.List.{take_all, take_more, nil_from_length}
use Rattle.call_spec.specs.Call.{Call, Span, item_at, starts_at}
use Rattle.call_spec.specs.History.{new_span, go_on, spans_in_history}
use Rattle.call_spec.specs.Whole.{AreSpans, first_periods}
use Rattle.call_spec.proofs.Stretched.{reverse-more}
use Rattle.call_spec.proofs.FirstPeriods.{length-first}
use Rattle.call_spec.proofs.Bridges.Ordered.{head_early, head_late, head_inside, item-none, starts-other, starts-here, starts-none}

-- a span by its parts
abbrev span3 : ℕ → ℕ → List (List ℕ) → Span
span3 from to items = record { from = from; to = to; items = items }

same_span : (a b c d : ℕ) (x y : List (List ℕ)) → a ≡ b → c ≡ d → x ≡ y → span3 a c x ≡ span3 b d y
same_span a b c d x y p q r = ap (λ a. span3 a c x) p ∙ ap (λ c. span3 b c x) q ∙ ap (span3 b d) r

-- of a span its periods before k
abbrev cut : ℕ → Span → Span
cut k span = span3 span.from (min span.to k) (take (k - span.from) span.items)

-- of some spans those periods
abbrev pub so_far : ℕ → List Span → List Span
so_far k [] = []
so_far k (span ∷ spans) = if nat_lt span.from k then cut k span ∷ so_far k spans else []

-- none before they start
so_far-none : (low n k : ℕ) (spans : List Span) → AreSpans low n spans → k ≤ low → so_far k spans ≡ []
so_far-none low n k [] h l = refl
so_far-none low n k (span ∷ spans) h l = let from = h.0 in cond-false (nat_lt span.from k) _ [] (le-ltb span.from k (omega arith))

-- the first one, and the others
so_far-some : (k : ℕ) (span : Span) (spans : List Span) → span.from < k → so_far k (span ∷ spans) ≡ cut k span ∷ so_far k spans
so_far-some k span spans l = cond-true (nat_lt span.from k) (cut k span ∷ so_far k spans) [] (lt-ltb span.from k l)

-- a span that is over is whole
cut-whole : (k : ℕ) (span : Span) → span.to ≤ k → span.from + length span.items ≡ span.to → cut k span ≡ span
cut-whole k span l e =
    same_span span.from span.from (min span.to k) span.to (take (k - span.from) span.items) span.items refl (omega arith)
    (take_all (k - span.from) span.items (omega arith))

-- the last span goes on where an item is handed over
abbrev extended : Option (List ℕ) → Span → Span
extended None span = span
extended (Some item) span = span3 span.from (span.to + 1) (span.items ++ item ∷ [])

-- the last of some spans goes on
abbrev go_last : Option (List ℕ) → List Span → List Span
go_last o [] = []
go_last o (span ∷ []) = extended o span ∷ []
go_last o (span ∷ next ∷ spans) = span ∷ go_last o (next ∷ spans)

go_last-end : (o : Option (List ℕ)) (spans : List Span) (span : Span) → go_last o (spans ++ span ∷ []) ≡ spans ++ extended o span ∷ []
go_last-end o [] span = refl
go_last-end o (a ∷ []) span = refl
go_last-end o (a ∷ b ∷ spans) span = ap (λ z. a ∷ z) (go_last-end o (b ∷ spans) span)

go_last-none : (spans : List Span) → go_last None spans ≡ spans
go_last-none [] = refl
go_last-none (a ∷ []) = refl
go_last-none (a ∷ b ∷ spans) = ap (λ z. a ∷ z) (go_last-none (b ∷ spans))

-- in the order of a history it is the first one
go_on-reverse : (o : Option (List ℕ)) (spans : List Span) → reverse (go_on o spans) ≡ go_last o (reverse spans)
go_on-reverse None spans = sym (go_last-none (reverse spans))
go_on-reverse (Some item) [] = refl
go_on-reverse (Some item) (span ∷ others) =
    reverse-more (extended (Some item) span) others ∙ sym (go_last-end (Some item) (reverse others) span)
    ∙ ap (go_last (Some item)) (sym (reverse-more span others))

-- the spans after period k
abbrev after : Bool → ℕ → Option (List ℕ) → List Span → List Span
after starts k o spans = if starts then spans ++ new_span k o ∷ [] else go_last o spans

-- they depend on what starts and what is handed over
same_after : (k : ℕ) (a b : Bool) (o p : Option (List ℕ)) (x y : List Span) → a ≡ b → o ≡ p → x ≡ y → after a k o x ≡ after b k p y
same_after k a b o p x y q r s = ap (λ a. after a k o x) q ∙ ap (λ o. after b k o x) r ∙ ap (after b k p) s

-- between spans nothing is handed over
nothing_yet : (low n k : ℕ) (spans : List Span) → AreSpans low n spans → so_far k spans ≡ [] → starts_at spans k ≡ false → item_at spans k ≡ None
nothing_yet low n k [] h e s = refl
nothing_yet low n k (span ∷ spans) h e s = elim (cases_lt span.from k) [
  | inl begun ↦ let q : cut k span ∷ so_far k spans ≡ [] = sym (so_far-some k span spans begun) ∙ e in cc
  | inr not_begun ↦ elim (cases_lt k span.from) [
    | inl early ↦ let count = h.3 in head_early span spans k early ∙ item-none (span.to + 1) n k spans h.4 (omega arith)
    | inr now ↦ absurd (true≢false (sym (starts-here span spans k (omega arith)) ∙ s))
  ]
]

-- a span that is over stays as it is
one_before : (k : ℕ) (span : Span) (starts : Bool) (o : Option (List ℕ)) (spans : List Span) → (spans ≡ [] → starts ≡ false → o ≡ None) →
    span ∷ after starts k o spans ≡ after starts k o (span ∷ spans)
one_before k span true o spans h = refl
one_before k span false o [] h = sym (ap (λ o. extended o span ∷ []) (h refl refl))
one_before k span false o (next ∷ spans) h = refl

-- a span that starts has its first item
first_of_new : (k : ℕ) (span : Span) (spans : List Span) (low n : ℕ) → AreSpans low n (span ∷ spans) → span.from ≡ k →
    cut (suc k) span ≡ new_span k (item_at (span ∷ spans) k)
first_of_new k span spans low n h e =
    let count = h.3 in
    let one : suc k - span.from ≡ 0 + 1 = omega arith in
    elim (cases_lt k span.to) [
      | inl goes ↦
          let place : k - span.from ≡ 0 = omega arith in
          same_span span.from k (min span.to (suc k)) (k + 1) (take (suc k - span.from) span.items) (get_or span.items (k - span.from) [] ∷ []) e (omega arith)
          (ap (λ i. take i span.items) one ∙ take_more span.items 0 [] (omega arith) ∙ ap (λ i. get_or span.items i [] ∷ []) (sym place)) ∙
          ap (new_span k) (sym (head_inside span spans k (omega arith) goes))
      | inr empty ↦
          let none : span.items ≡ [] = nil_from_length span.items (omega arith) in
          same_span span.from k (min span.to (suc k)) k (take (suc k - span.from) span.items) [] e (omega arith)
          (ap (λ i. take i span.items) one ∙ ap (take (0 + 1)) none) ∙
          ap (new_span k) (sym (head_late span spans k empty ∙ item-none (span.to + 1) n k spans h.4 (omega arith)))
    ]

-- **One period more is one step of the history.**
step : (low n k : ℕ) (spans : List Span) → AreSpans low n spans → so_far (suc k) spans ≡ after (starts_at spans k) k (item_at spans k) (so_far k spans)
step low n k [] h = refl
step low n k (span ∷ spans) h =
    let count = h.3 in
    let rest : AreSpans (span.to + 1) n spans = h.4 in
    elim (cases_lt k span.from) [
      | inl early ↦
          cond-false (nat_lt span.from (suc k)) (cut (suc k) span ∷ so_far (suc k) spans) [] (le-ltb span.from (suc k) (omega arith)) ∙
          sym (same_after k _ false _ None _ []
          (starts-other span spans k (λ e. omega arith) ∙ starts-none (span.to + 1) n k spans rest (omega arith))
          (head_early span spans k early ∙ item-none (span.to + 1) n k spans rest (omega arith))
          (cond-false (nat_lt span.from k) (cut k span ∷ so_far k spans) [] (le-ltb span.from k (omega arith))))
      | inr begun ↦ elim (cases_lt span.from k) [
        | inr now ↦
            let e : span.from ≡ k = omega arith in
            so_far-some (suc k) span spans (omega arith) ∙ ap (λ z. cut (suc k) span ∷ z) (so_far-none (span.to + 1) n (suc k) spans rest (omega arith)) ∙
            ap (λ s. s ∷ []) (first_of_new k span spans low n h e) ∙
            sym (same_after k _ true _ (item_at (span ∷ spans) k) _ [] (starts-here span spans k e) refl
            (cond-false (nat_lt span.from k) (cut k span ∷ so_far k spans) [] (le-ltb span.from k (omega arith))))
        | inl before ↦ so_far-some (suc k) span spans (omega arith) ∙ elim (cases_lt k span.to) [
          | inl goes ↦
              let e : k - span.from + 1 ≡ suc k - span.from = omega arith in
              ap (λ z. cut (suc k) span ∷ z) (so_far-none (span.to + 1) n (suc k) spans rest (omega arith)) ∙
              ap (λ s. s ∷ [])
              (same_span span.from span.from (min span.to (suc k)) (min span.to k + 1) (take (suc k - span.from) span.items) _ refl (omega arith)
              (sym (ap (λ i. take i span.items) e) ∙ take_more span.items (k - span.from) [] (omega arith))) ∙
              sym (same_after k _ false _ (Some (get_or span.items (k - span.from) [])) _ (cut k span ∷ [])
              (starts-other span spans k (λ e. omega arith) ∙ starts-none (span.to + 1) n k spans rest (omega arith))
              (head_inside span spans k begun goes)
              (so_far-some k span spans before ∙ ap (λ z. cut k span ∷ z) (so_far-none (span.to + 1) n k spans rest (omega arith))))
          | inr over ↦
              ap (λ s. s ∷ so_far (suc k) spans) (cut-whole (suc k) span (omega arith) count) ∙ ap (λ z. span ∷ z) (step (span.to + 1) n k spans rest) ∙
              one_before k span (starts_at spans k) (item_at spans k) (so_far k spans) (nothing_yet (span.to + 1) n k spans rest) ∙
              sym (same_after k _ (starts_at spans k) _ (item_at spans k) _ (span ∷ so_far k spans)
              (starts-other span spans k (λ e. omega arith)) (head_late span spans k over)
              (so_far-some k span spans before ∙ ap (λ s. s ∷ so_far k spans) (cut-whole k span over count)))
        ]
      ]
    ]

-- after all periods they are whole
pub so_far-all : (low n : ℕ) (spans : List Span) → AreSpans low n spans → so_far n spans ≡ spans
so_far-all low n [] h = refl
so_far-all low n (span ∷ spans) h =
    so_far-some n span spans h.1 ∙ ap (λ s. s ∷ so_far n spans) (cut-whole n span h.2 h.3) ∙ ap (λ z. span ∷ z) (so_far-all (span.to + 1) n spans h.4)

-- **The spans of the history of k periods are the call's before period k.**
pub spans-first : (call : Call) (n k : ℕ) → AreSpans 0 n call.spans → reverse (spans_in_history (first_periods call k)) ≡ so_far k call.spans
spans-first call n zero h = sym (so_far-none 0 n 0 call.spans h (omega arith))
spans-first call n (suc k) h = by (starts_at call.spans k) refl (spans-first call n k h)
  where
    by : (b : Bool) → starts_at call.spans k ≡ b → reverse (spans_in_history (first_periods call k)) ≡ so_far k call.spans →
        reverse (spans_in_history (first_periods call (suc k))) ≡ so_far (suc k) call.spans
    by true e so =
        ap reverse (cond-true (starts_at call.spans k) _ (go_on (item_at call.spans k) (spans_in_history (first_periods call k))) e) ∙
        reverse-more (new_span (length (first_periods call k)) (item_at call.spans k)) (spans_in_history (first_periods call k)) ∙
        ap (λ z. z ++ new_span (length (first_periods call k)) (item_at call.spans k) ∷ []) so ∙
        ap (λ i. so_far k call.spans ++ new_span i (item_at call.spans k) ∷ []) (length-first call k) ∙
        sym (step 0 n k call.spans h ∙ ap (λ b. after b k (item_at call.spans k) (so_far k call.spans)) e)
    by false e so =
        ap reverse
        (cond-false (starts_at call.spans k) (new_span (length (first_periods call k)) (item_at call.spans k) ∷ spans_in_history (first_periods call k)) _ e) ∙
        go_on-reverse (item_at call.spans k) (spans_in_history (first_periods call k)) ∙ ap (go_last (item_at call.spans k)) so ∙
        sym (step 0 n k call.spans h ∙ ap (λ b. after b k (item_at call.spans k) (so_far k call.spans)) e)
