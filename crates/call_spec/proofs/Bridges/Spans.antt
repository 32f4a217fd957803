-- The spans of a history say of each period what the history says.
use Rattle.std.proofs.Common.{◌≡◌, refl, sym, ap, ◌∙◌, inl, inr, ◌⊎◌, ℕ, ◌+◌, ◌-◌, ◌<◌, ◌≤◌, Bool, true, false, ◌||◌, ◌&&◌, if◌then◌else◌, nat_le, nat_lt}
use Rattle.std.proofs.Common.{Option, Some, None, List, [], ◌∷◌, ◌++◌, length, reverse, get_or, arith, length-append}
use Rattle.std.specs.Prelude.{is_some, unwrap_or}
use Rattle.std.specs.Option.{option_or}
use Rattle.std.proofs.lemmas.Bool.{cases_lt, cases_Bool, lt-leb, le-leb, lt-ltb, le-ltb, cond-true, cond-false, and_from, and_left, and_right, true≢false}
use Rattle.std.proofs.lemmas.List.{get_or_append_left, get_or_at}
use Rattle.down_framer.specs.Bridges.{IsHistory, in_bridge}
use Rattle.call_leg.specs.Periods.{CallPeriod, handed_in}
use Rattle.call_leg.specs.Down.{down_periods}
use Rattle.call_spec.specs.Call.{Span, item_at}
use Rattle.call_spec.specs.History.{new_span, go_on, spans_in_history}
use Rattle.call_spec.proofs.Stretched.{reverse-more}
use Rattle.call_spec.proofs.Bridges.OneItem.{or_none}
use Rattle.call_spec.proofs.Ranges.{IsPeriod}
use Rattle.call_spec.proofs.Bridges.Handed.{handed_at, handed_at-past, handed_at-now, handed_at-old, handed_at-period, handed_in-at, handed_at-later}

first_none : (o p : Option (List ℕ)) → option_or o p ≡ None → o ≡ None
first_none None p e = refl
first_none (Some x) p e = cc

-- of spans in order the last is asked last
item_at-more : (spans : List Span) (span : Span) (k : ℕ) → item_at (spans ++ span ∷ []) k ≡ option_or (item_at spans k) (item_at (span ∷ []) k)
item_at-more [] span k = refl
item_at-more (s ∷ spans) span k = by (nat_le s.from k && nat_lt k s.to) (item_at-more spans span k)
  where
    by : (b : Bool) → item_at (spans ++ span ∷ []) k ≡ option_or (item_at spans k) (item_at (span ∷ []) k) →
        (if b then Some (get_or s.items (k - s.from) []) else item_at (spans ++ span ∷ []) k) ≡
        option_or (if b then Some (get_or s.items (k - s.from) []) else item_at spans k) (item_at (span ∷ []) k)
    by true e = refl
    by false e = e

item_at-newest : (span : Span) (spans : List Span) (k : ℕ) → item_at (reverse (span ∷ spans)) k ≡ option_or (item_at (reverse spans) k) (item_at (span ∷ []) k)
item_at-newest span spans k = ap (λ z. item_at z k) (reverse-more span spans) ∙ item_at-more (reverse spans) span k

-- before a span it has no item
early : (span : Span) (k : ℕ) → k < span.from → item_at (span ∷ []) k ≡ None
early span k l =
    cond-false (nat_le span.from k && nat_lt k span.to) (Some (get_or span.items (k - span.from) [])) None
    (and_left _ (nat_lt k span.to) (lt-leb span.from k l))

-- nor behind it
late : (span : Span) (k : ℕ) → span.to ≤ k → item_at (span ∷ []) k ≡ None
late span k l =
    cond-false (nat_le span.from k && nat_lt k span.to) (Some (get_or span.items (k - span.from) [])) None
    (and_right (nat_le span.from k) _ (le-ltb k span.to l))

-- within it, its item
inside : (span : Span) (k : ℕ) → span.from ≤ k → k < span.to → item_at (span ∷ []) k ≡ Some (get_or span.items (k - span.from) [])
inside span k l m =
    cond-true (nat_le span.from k && nat_lt k span.to) (Some (get_or span.items (k - span.from) [])) None
    (and_from _ _ (le-leb span.from k l) (lt-ltb k span.to m))

-- a span that starts in the newest period
item_new : (n : ℕ) (o : Option (List ℕ)) (k : ℕ) → k ≡ n → item_at (new_span n o ∷ []) k ≡ o
item_new n None k e = late (new_span n None) k (omega arith)
item_new n (Some item) k e =
    let first : k - n ≡ 0 = omega arith in
    inside (new_span n (Some item)) k (omega arith) (omega arith) ∙ ap (λ i. Some (get_or (item ∷ []) i [])) first

-- a new span has its item in its own period alone
item_not_new : (n : ℕ) (o : Option (List ℕ)) (k : ℕ) → (k < n) ⊎ (n < k) → item_at (new_span n o ∷ []) k ≡ None
item_not_new n None k (inl l) = early (new_span n None) k l
item_not_new n (Some item) k (inl l) = early (new_span n (Some item)) k l
item_not_new n None k (inr l) = late (new_span n None) k (omega arith)
item_not_new n (Some item) k (inr l) = late (new_span n (Some item)) k (omega arith)

-- the latest span, where the newest period lies in it
record Latest (past : List CallPeriod) : Type 0 where
  span : Span
  others : List Span
  is : spans_in_history past ≡ span ∷ others
  to : span.to ≡ length past
  count : span.from + length span.items ≡ span.to

-- what goes on was going on
went_on : (t : CallPeriod) (past : List CallPeriod) (b : Bool) → t.starts ≡ false → (is_some t.handed ≡ true → (t.starts || b) ≡ true) →
    is_some t.handed ≡ true → b ≡ true
went_on t past b e h y = sym (ap (λ s. s || b) e) ∙ h y

-- the latest span, a period longer
longer : Span → List ℕ → Span
longer span item = record { from = span.from; to = span.to + 1; items = span.items ++ item ∷ [] }

-- the latest span of a history that lies in a bridge
latest : (ts : List CallPeriod) → IsHistory (down_periods ts) → in_bridge (down_periods ts) ≡ true → Latest ts
unfolding longer
latest [] h b = absurd (true≢false (sym b))
latest (t ∷ past) h b = by (latest past h.0) t.handed refl (cases_Bool t.starts)
  where
    by : (in_bridge (down_periods past) ≡ true → Latest past) → (o : Option (List ℕ)) → t.handed ≡ o → (t.starts ≡ true) ⊎ (t.starts ≡ false) →
        Latest (t ∷ past)
    by before None e s = absurd (true≢false (sym b ∙ ap is_some e))
    by before (Some item) e (inl s) = record {
      span = new_span (length past) (Some item);
      others = spans_in_history past;
      is =
          cond-true t.starts (new_span (length past) t.handed ∷ spans_in_history past) (go_on t.handed (spans_in_history past)) s
          ∙ ap (λ o. new_span (length past) o ∷ spans_in_history past) e;
      to = omega arith;
      count = omega arith;
    }
    by before (Some item) e (inr s) =
        let l = before (went_on t past (in_bridge (down_periods past)) s h.2 (ap is_some e)) in
        let to = l.to in
        let count = l.count in
        let n = length-append l.span.items (item ∷ []) in
        record {
          span = longer l.span item;
          others = l.others;
          is =
              cond-false t.starts (new_span (length past) t.handed ∷ spans_in_history past) (go_on t.handed (spans_in_history past)) s
              ∙ ap (λ o. go_on o (spans_in_history past)) e ∙ ap (go_on (Some item)) l.is;
          to = omega arith;
          count = omega arith;
        }

-- an item more
item_longer : (span : Span) (item : List ℕ) (k n : ℕ) → span.to ≡ n → span.from + length span.items ≡ span.to → k < n →
    item_at (longer span item ∷ []) k ≡ item_at (span ∷ []) k
unfolding longer
item_longer span item k n e c l = elim (cases_lt k span.from) [
  | inl before ↦ early (longer span item) k before ∙ sym (early span k before)
  | inr from ↦
      inside (longer span item) k from (omega arith) ∙ ap (λ x. Some x) (get_or_append_left span.items (item ∷ []) [] (k - span.from) (omega arith)) ∙
      sym (inside span k from (omega arith))
]

-- a span that grew has the item in its last period
item_last : (span : Span) (item : List ℕ) (k : ℕ) → span.to ≡ k → span.from + length span.items ≡ span.to → item_at (longer span item ∷ []) k ≡ Some item
unfolding longer
item_last span item k e c =
    inside (longer span item) k (omega arith) (omega arith) ∙ ap (λ x. Some x) (get_or_at span.items item [] [] (k - span.from) (omega arith))

-- ---- one more period

-- the new last span has no item of an earlier period
or_new : (a b d : Option (List ℕ)) → b ≡ None → a ≡ d → option_or a b ≡ d
or_new a b d p q = ap (option_or a) p ∙ or_none a ∙ q

or_none_before : (a b d : Option (List ℕ)) → a ≡ None → b ≡ d → option_or a b ≡ d
or_none_before a b d p q = ap (λ z. option_or z b) p ∙ q

-- where a span starts the spans say what the history says
item-starts : (t : CallPeriod) (past : List CallPeriod) → ((k : ℕ) → item_at (reverse (spans_in_history past)) k ≡ handed_at past k) → (k : ℕ) →
    item_at (reverse (new_span (length past) t.handed ∷ spans_in_history past)) k ≡ handed_at (t ∷ past) k
item-starts t past before k =
    item_at-newest (new_span (length past) t.handed) (spans_in_history past) k ∙
    elim (cases_lt k (length past)) [
      | inl old ↦ or_new _ _ _ (item_not_new (length past) t.handed k (inl old)) (before k ∙ sym (handed_at-old t past k old))
      | inr not_old ↦ elim (cases_lt (length past) k) [
        | inl later ↦
            or_new _ _ _ (item_not_new (length past) t.handed k (inr later))
            (before k ∙ handed_at-past past k (omega arith) ∙ sym (handed_at-past (t ∷ past) k (omega arith)))
        | inr now ↦
            let e : k ≡ length past = omega arith in
            or_none_before _ _ _ (before k ∙ handed_at-past past k (omega arith)) (item_new (length past) t.handed k e ∙ sym (handed_at-now t past k e))
      ]
    ]

-- and where nothing is handed over
item-out : (t : CallPeriod) (past : List CallPeriod) → t.handed ≡ None → (k : ℕ) → handed_at past k ≡ handed_at (t ∷ past) k
item-out t past out k = elim (cases_lt k (length past)) [
  | inl old ↦ sym (handed_at-old t past k old)
  | inr not_old ↦ handed_at-past past k not_old ∙ elim (cases_lt (length past) k) [
    | inl later ↦ sym (handed_at-past (t ∷ past) k (omega arith))
    | inr now ↦ sym (handed_at-now t past k (omega arith) ∙ out)
  ]
]

-- and where the latest span goes on
item-goes : (t : CallPeriod) (past : List CallPeriod) (item : List ℕ) → t.handed ≡ Some item → Latest past →
    ((k : ℕ) → item_at (reverse (spans_in_history past)) k ≡ handed_at past k) → (k : ℕ) →
    item_at (reverse (go_on (Some item) (spans_in_history past))) k ≡ handed_at (t ∷ past) k
unfolding longer
item-goes t past item e l before k =
    ap (λ ss. item_at (reverse (go_on (Some item) ss)) k) l.is ∙ item_at-newest (longer l.span item) l.others k ∙
    elim (cases_lt k (length past)) [
      | inl old ↦
          ap (option_or (item_at (reverse l.others) k)) (item_longer l.span item k (length past) l.to l.count old) ∙ were ∙
          sym (handed_at-old t past k old)
      | inr not_old ↦
          let none : item_at (reverse l.others) k ≡ None = first_none _ (item_at (l.span ∷ []) k) (were ∙ handed_at-past past k not_old) in
          let to = l.to in
          elim (cases_lt (length past) k) [
            | inl later ↦ or_none_before _ _ _ none (late (longer l.span item) k (omega arith) ∙ sym (handed_at-past (t ∷ past) k (omega arith)))
            | inr now ↦ or_none_before _ _ _ none (item_last l.span item k (omega arith) l.count ∙ sym (handed_at-now t past k (omega arith) ∙ e))
          ]
    ]
  where
    were : option_or (item_at (reverse l.others) k) (item_at (l.span ∷ []) k) ≡ handed_at past k
    were = sym (item_at-newest l.span l.others k) ∙ ap (λ ss. item_at (reverse ss) k) (sym l.is) ∙ before k

-- **The spans say of each period what is handed over in it.**
pub item_at-history : (ts : List CallPeriod) → IsHistory (down_periods ts) → (k : ℕ) → item_at (reverse (spans_in_history ts)) k ≡ handed_at ts k
item_at-history [] h k = refl
item_at-history (t ∷ past) h k = by (cases_Bool t.starts) t.handed refl (item_at-history past h.0)
  where
    by : (t.starts ≡ true) ⊎ (t.starts ≡ false) → (o : Option (List ℕ)) → t.handed ≡ o →
        ((k : ℕ) → item_at (reverse (spans_in_history past)) k ≡ handed_at past k) →
        item_at (reverse (spans_in_history (t ∷ past))) k ≡ handed_at (t ∷ past) k
    by (inl s) o e before =
        ap (λ ss. item_at (reverse ss) k)
        (cond-true t.starts (new_span (length past) t.handed ∷ spans_in_history past) (go_on t.handed (spans_in_history past)) s) ∙
        item-starts t past before k
    by (inr s) None e before =
        ap (λ ss. item_at (reverse ss) k)
        (cond-false t.starts (new_span (length past) t.handed ∷ spans_in_history past) (go_on t.handed (spans_in_history past)) s
        ∙ ap (λ o. go_on o (spans_in_history past)) e) ∙
        before k ∙ item-out t past e k
    by (inr s) (Some item) e before =
        ap (λ ss. item_at (reverse ss) k)
        (cond-false t.starts (new_span (length past) t.handed ∷ spans_in_history past) (go_on t.handed (spans_in_history past)) s
        ∙ ap (λ o. go_on o (spans_in_history past)) e) ∙
        item-goes t past item e (latest past h.0 (went_on t past (in_bridge (down_periods past)) s h.2 (ap is_some e))) before k

-- **So they do of a period of the history.**
pub item_at-period : (ts : List CallPeriod) (t : CallPeriod) (past : List CallPeriod) → IsHistory (down_periods ts) → IsPeriod ts t past →
    item_at (reverse (spans_in_history ts)) (length past) ≡ t.handed
item_at-period ts t past h p = item_at-history ts h (length past) ∙ ap (λ us. handed_at us (length past)) (sym p.1) ∙ handed_at-period p.0 t past

-- the item of a period up to one of the history
pub handed_in-period : (ts : List CallPeriod) (t : CallPeriod) (past : List CallPeriod) (h : ℕ) → IsHistory (down_periods ts) → IsPeriod ts t past →
    h ≤ length past →
    unwrap_or (item_at (reverse (spans_in_history ts)) h) [] ≡ handed_in h (t ∷ past)
handed_in-period ts t past h k p l =
    ap (λ o. unwrap_or o []) (item_at-history ts k h ∙ ap (λ us. handed_at us h) (sym p.1) ∙ handed_at-later p.0 (t ∷ past) h (omega arith)) ∙
    sym (handed_in-at (t ∷ past) h)
