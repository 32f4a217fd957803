-- The spans of a call are in order, and say of each period what the run says.
use Rattle.std.proofs.Common.{◌≡◌, refl, sym, ap, ◌∙◌, subst, ℕ, ◌+◌, ◌-◌, ◌<◌, ◌≤◌, min, Bool, true, false, Some, List, [], ◌∷◌, map, length, get_or, inl, inr}
use Rattle.std.proofs.Common.{arith}
use Rattle.std.specs.Prelude.{◌==◌, ◌&&◌, ◌||◌, if◌then◌else◌, nat_lt, nat_le, is_some, unwrap_or, filter, find, option_map}
use Rattle.std.specs.List.{AllByRecursion, list_any}
use Rattle.std.proofs.lemmas.Bool.{and_parts, and_from, and_right, or_cases, eqb-true, eq-eqb, ne_eqb, cases_eq, cases_lt, ltb-true, lt-ltb, le-ltb, le-leb}
use Rattle.std.proofs.lemmas.Bool.{lt-leb, leb-true}
use Rattle.std.proofs.lemmas.List.FromFn.{length-map-range_with_len, get_or-map-range_with_len}
use Rattle.trau_orders.specs.Lists.{AreOrders}
use Rattle.switchboard.specs.declared.act.Span as board
use Rattle.switchboard.specs.declared.table.Bridge.{Bridge}
use Rattle.switchboard.specs.Calls.{opened_at}
use Rattle.switchboard.specs.Bridges.{bridges, joins}
use Rattle.switchboard.specs.Ends.{span_of}
use Rattle.call_spec.specs.Call.{Span, item_at, starts_at}
use Rattle.call_spec.specs.Whole.{AreSpans}
use Rattle.run_spec.specs.Run.{Run, whole_in, given_in, done_in, spans_in, start_in, end_in, is_of, other_in, handed_to}
use Rattle.run_spec.proofs.Lists.{each_both, each_map, each_weaker}
use Rattle.run_spec.proofs.Bridges.Standing.{Standing, IsSoundBridge, NeverOverlap, over_by}
use Rattle.run_spec.proofs.Periods.Settled.{start_is, to_of, covers}
use Rattle.run_spec.proofs.Periods.SoFar.{standing_end}
use Rattle.run_spec.proofs.Bridges.Covered.{over_within}
use Rattle.run_calls_spec.specs.Whole.{count_in, item_in, begins_in, span_for, spans_for}
use Rattle.run_calls_spec.proofs.InTime.{IsInTime, bridges_in_time, ends_after}

-- ---- a bridge's span within a call

-- the span of a bridge
abbrev pub span_in : Run → Bridge → board.Span
span_in r x = span_of (given_in r) r.periods (done_in r) x

-- a span of a call lies within it
pub record LiesIn (r : Run) (c : ℕ) (x : board.Span) : Type 0 where
  pub known : is_some (opened_at c (done_in r)) ≡ true
  pub opened : start_in r c ≤ x.from
  pub begun : x.from ≤ x.to
  pub over : x.to ≤ end_in r c

-- both calls of a bridge were opened before it began
opened_before : (r : Run) (x : Bridge) (c : ℕ) → IsSoundBridge (whole_in r) r.periods (done_in r) x → joins c x ≡ true →
    (s : ℕ) × (opened_at c (done_in r) ≡ Some s) × (s ≤ x.from)
opened_before r x c y j = elim (or_cases (c == x.a) (c == x.b) j) [
  | inl p ↦ (y.start_a, ap (λ d. opened_at d (done_in r)) (eqb-true c x.a p) ∙ y.opened_a, y.after_a)
  | inr p ↦ (y.start_b, ap (λ d. opened_at d (done_in r)) (eqb-true c x.b p) ∙ y.opened_b, y.after_b)
]

-- it starts no earlier than each of its calls
starts_before : (r : Run) (x : Bridge) (c : ℕ) → IsSoundBridge (whole_in r) r.periods (done_in r) x → joins c x ≡ true → start_in r c ≤ x.from
starts_before r x c y j = let s = opened_before r x c y j in subst (λ (n : ℕ). n ≤ x.from) (sym (start_is (done_in r) c s.0 s.1)) s.2

-- and ends no later
ends_before : (r : Run) (x : Bridge) (c : ℕ) → joins c x ≡ true → to_of (span_in r x) ≤ end_in r c
ends_before r x c j = elim (or_cases (c == x.a) (c == x.b) j) [
  | inl p ↦
      subst (λ (d : ℕ). to_of (span_in r x) ≤ end_in r d) (sym (eqb-true c x.a p))
      (first (end_in r x.a) (end_in r x.b) (unwrap_or x.ended (min (end_in r x.a) (end_in r x.b))))
  | inr p ↦
      subst (λ (d : ℕ). to_of (span_in r x) ≤ end_in r d) (sym (eqb-true c x.b p))
      (second (end_in r x.a) (end_in r x.b) (unwrap_or x.ended (min (end_in r x.a) (end_in r x.b))))
]
  where
    first : (a b n : ℕ) → min n (min a b) ≤ a
    first a b n = omega arith

    second : (a b n : ℕ) → min n (min a b) ≤ b
    second a b n = omega arith

-- a bridge that is sound and in time
abbrev IsBridge : Run → Bridge → Type 0
IsBridge r x = IsSoundBridge (whole_in r) r.periods (done_in r) x × IsInTime (whole_in r) (done_in r) x

-- its span lies within each of its calls
bridge_lies : (r : Run) (x : Bridge) (c : ℕ) → IsBridge r x → joins c x ≡ true → LiesIn r c (span_in r x)
bridge_lies r x c h j = record {
  known = ap is_some (opened_before r x c h.0 j).1;
  opened = starts_before r x c h.0 j;
  begun = ends_after (given_in r) r.periods (done_in r) x h.0.from h.1;
  over = ends_before r x c j;
}

-- all bridges of a run are such
are_bridges : (r : Run) → AreOrders r.orders → AllByRecursion (IsBridge r) (bridges (done_in r))
are_bridges r a = each_both _ _ (bridges (done_in r)) (standing_end r a).sound (bridges_in_time r a)

-- **The spans of a call lie within it.**
pub spans_lie : (r : Run) (c : ℕ) → AreOrders r.orders → AllByRecursion (λ x. is_of c x ≡ true → LiesIn r c x) (spans_in r)
spans_lie r c a = each_map (λ x. is_of c x ≡ true → LiesIn r c x) (span_in r) (bridges (done_in r))
    (each_weaker (IsBridge r) (λ x. joins c x ≡ true → LiesIn r c (span_in r x)) (bridges (done_in r)) (λ x h j. bridge_lies r x c h j) (are_bridges r a))

-- ---- in order

-- the spans of some bridges, counted from the call's opening
abbrev spans_from : Run → ℕ → List Bridge → List Span
spans_from r c xs = map (span_for r c) (filter (begins_in r c) (map (span_in r) xs))

length-items : (r : Run) (c : ℕ) (x : board.Span) → length (span_for r c x).items ≡ x.to - x.from
length-items r c x = length-map-range_with_len _ x.from (x.to - x.from)

-- counted from there they lie within the call
placed : (low s from to e items : ℕ) → low + s ≤ from → s ≤ from → from ≤ to → to ≤ e → from < e → items ≡ to - from →
    (low ≤ from - s) × (from - s < e - s) × (to - s ≤ e - s) × (from - s + items ≡ to - s)
placed low s from to e items l m n o p q = (omega arith, omega arith, omega arith, omega arith)

-- **They are in order.**
in_order : (r : Run) (c low : ℕ) (xs : List Bridge) → Standing (whole_in r) r.periods (done_in r) → NeverOverlap (whole_in r) (done_in r) xs →
    AllByRecursion (IsBridge r) xs →
    AllByRecursion (λ x. joins c x ≡ true → low + start_in r c ≤ x.from) xs → AreSpans low (count_in r c) (spans_from r c xs)
in_order r c low [] st n h l = tt
in_order r c low (x ∷ xs) st n h l = by (λ low k. in_order r c low xs st n.1 h.1 k) (begins_in r c (span_in r x)) refl
  where
    apart : (to s from later : ℕ) → s ≤ from → from ≤ to → to < later → to - s + 1 + s ≤ later
    apart to s from later l m n = omega arith

    by : ((low : ℕ) → AllByRecursion (λ y. joins c y ≡ true → low + start_in r c ≤ y.from) xs → AreSpans low (count_in r c) (spans_from r c xs)) →
        (b : Bool) → begins_in r c (span_in r x) ≡ b →
        AreSpans low (count_in r c) (map (span_for r c) (if b then span_in r x ∷ filter (begins_in r c) (map (span_in r) xs)
        else filter (begins_in r c) (map (span_in r) xs)))
    by rest false e = rest low l.1
    by rest true e =
        let q = and_parts (joins c x) (nat_lt x.from (end_in r c)) e in
        let k = bridge_lies r x c h.0 q.0 in
        let p =
        placed low (start_in r c) x.from (to_of (span_in r x)) (end_in r c) (length (span_for r c (span_in r x)).items) (l.0 q.0) k.opened k.begun k.over
        (ltb-true x.from (end_in r c) q.1) (length-items r c (span_in r x)) in (
          p.0,
          p.1,
          p.2,
          p.3,
          rest (to_of (span_in r x) - start_in r c + 1)
              (each_weaker (λ y. (c : ℕ) → joins c x ≡ true → joins c y ≡ true → over_by (whole_in r) y.from (done_in r) x ≡ true)
              (λ y. joins c y ≡ true → to_of (span_in r x) - start_in r c + 1 + start_in r c ≤ y.from) xs
              (λ y f j. apart (to_of (span_in r x)) (start_in r c) x.from y.from k.opened k.begun
              (over_within (given_in r) r.periods y.from (done_in r) x st h.0.0 (f c q.0 j))) n.0),
        )

-- **The spans of a call are in order, each with a period to the next.**
pub spans_ordered : (r : Run) (c : ℕ) → AreOrders r.orders → AreSpans 0 (count_in r c) (spans_for r c)
spans_ordered r c a =
    let st = standing_end r a in
    in_order r c 0 (bridges (done_in r)) st st.apart (are_bridges r a)
    (each_weaker (IsBridge r) (λ x. joins c x ≡ true → 0 + start_in r c ≤ x.from) (bridges (done_in r))
    (λ x h j. let o = starts_before r x c h.0 j in omega arith) (are_bridges r a))

-- ---- the spans that are kept

-- a test of those that are kept
any_kept : {X Y : Type 0} (p : Y → Bool) (q : X → Bool) (f : X → Y) (g : X → Bool) (xs : List X) → AllByRecursion (λ x. (q x && p (f x)) ≡ g x) xs →
    list_any p (map f (filter q xs)) ≡ list_any g xs
any_kept p q f g [] h = refl
any_kept p q f g (x ∷ xs) h = by (q x) h.0 (any_kept p q f g xs h.1)
  where
    by : (b : Bool) → (b && p (f x)) ≡ g x → list_any p (map f (filter q xs)) ≡ list_any g xs →
        list_any p (map f (if b then x ∷ filter q xs else filter q xs)) ≡ (g x || list_any g xs)
    by true e k = ap (λ t. t || list_any p (map f (filter q xs))) e ∙ ap (λ t. g x || t) k
    by false e k = k ∙ ap (λ t. t || list_any g xs) e

-- and the item of the one that passes
item_kept : {X : Type 0} (q : X → Bool) (f : X → Span) (g : X → Bool) (v : X → List ℕ) (k : ℕ) (xs : List X) →
    AllByRecursion (λ x. ((q x && (nat_le (f x).from k && nat_lt k (f x).to)) ≡ g x) × (g x ≡ true → get_or (f x).items (k - (f x).from) [] ≡ v x)) xs →
    item_at (map f (filter q xs)) k ≡ option_map v (find g xs)
item_kept q f g v k [] h = refl
item_kept q f g v k (x ∷ xs) h = by (q x) (nat_le (f x).from k && nat_lt k (f x).to) (g x) h.0.0 h.0.1 (item_kept q f g v k xs h.1) refl
  where
    by : (b t u : Bool) → (b && t) ≡ u → (u ≡ true → get_or (f x).items (k - (f x).from) [] ≡ v x) →
        item_at (map f (filter q xs)) k ≡ option_map v (find g xs) →
        (nat_le (f x).from k && nat_lt k (f x).to) ≡ t →
        item_at (map f (if b then x ∷ filter q xs else filter q xs)) k ≡ option_map v (if u then Some x else find g xs)
    by false t u e w i p = i ∙ ap (λ u. option_map v (if u then Some x else find g xs)) e
    by true true u e w i p =
        ap (λ t. if t then Some (get_or (f x).items (k - (f x).from) []) else item_at (map f (filter q xs)) k) p ∙ ap Some (w (sym e))
        ∙ ap (λ u. option_map v (if u then Some x else find g xs)) e
    by true false u e w i p =
        ap (λ t. if t then Some (get_or (f x).items (k - (f x).from) []) else item_at (map f (filter q xs)) k) p ∙ i
        ∙ ap (λ u. option_map v (if u then Some x else find g xs)) e

-- ---- each period

-- a span starts at the same period, counted from the opening
starts_test : (j : Bool) (s from e k : ℕ) → (j ≡ true → s ≤ from) → k < e - s → ((j && nat_lt from e) && from - s == k) ≡ (j && from == s + k)
starts_test false s from e k h l = refl
starts_test true s from e k h l =
    let m : s ≤ from = h refl in
    elim (cases_eq from (s + k)) [
      | inl p ↦ and_from (nat_lt from e) (from - s == k) (lt-ltb from e (omega arith)) (eq-eqb (from - s) k (omega arith)) ∙ sym (eq-eqb from (s + k) p)
      | inr p ↦ and_right (nat_lt from e) (from - s == k) (ne_eqb (from - s) k (λ q. p (omega arith))) ∙ sym (ne_eqb from (s + k) p)
    ]

-- **A span of the call starts where one of the run does.**
pub starts_in : (r : Run) (c k : ℕ) → AreOrders r.orders → k < count_in r c →
    starts_at (spans_for r c) k ≡ list_any (λ x. is_of c x && x.from == start_in r c + k) (spans_in r)
starts_in r c k a l = any_kept (λ span. span.from == k) (begins_in r c) (span_for r c) (λ x. is_of c x && x.from == start_in r c + k) (spans_in r)
    (each_weaker (λ x. is_of c x ≡ true → LiesIn r c x) (λ x. (begins_in r c x && x.from - start_in r c == k) ≡ (is_of c x && x.from == start_in r c + k))
    (spans_in r)
    (λ x h. starts_test (is_of c x) (start_in r c) x.from (end_in r c) k (λ j. (h j).opened) l) (spans_lie r c a))

-- and covers the same periods
covers_test : (j : Bool) (s from to e k : ℕ) → (j ≡ true → s ≤ from) → k < e - s →
    ((j && nat_lt from e) && (nat_le (from - s) k && nat_lt k (to - s))) ≡ (j && nat_le from (s + k) && nat_lt (s + k) to)
covers_test false s from to e k h l = refl
covers_test true s from to e k h l =
    let m : s ≤ from = h refl in
    elim (cases_lt (s + k) from) [
      | inl p ↦
          and_right (nat_lt from e) (nat_le (from - s) k && nat_lt k (to - s)) (ap (λ t. t && nat_lt k (to - s)) (lt-leb (from - s) k (omega arith)))
          ∙ sym (ap (λ t. t && nat_lt (s + k) to) (lt-leb from (s + k) p))
      | inr p ↦
          ap (λ t. t && (nat_le (from - s) k && nat_lt k (to - s))) (lt-ltb from e (omega arith))
          ∙ ap (λ t. t && nat_lt k (to - s)) (le-leb (from - s) k (omega arith)) ∙ last
          ∙ sym (ap (λ t. t && nat_lt (s + k) to) (le-leb from (s + k) p))
    ]
  where
    last : nat_lt k (to - s) ≡ nat_lt (s + k) to
    last = elim (cases_lt (s + k) to) [
      | inl q ↦ lt-ltb k (to - s) (omega arith) ∙ sym (lt-ltb (s + k) to q)
      | inr q ↦ le-ltb k (to - s) (omega arith) ∙ sym (le-ltb (s + k) to q)
    ]

-- the item of a span's period
item_of_period : (r : Run) (c k : ℕ) (x : board.Span) → LiesIn r c x → x.from ≤ start_in r c + k → start_in r c + k < x.to →
    get_or (span_for r c x).items (k - (span_for r c x).from) [] ≡ item_in r (other_in c x) (start_in r c + k)
item_of_period r c k x h l m =
    let o = h.opened in
    get_or-map-range_with_len (item_in r (other_in c x)) x.from (x.to - x.from) (k - (x.from - start_in r c)) (start_in r c + k) [] (omega arith)
    (omega arith)

-- **The call is handed in a period what it is handed in the run.**
pub handed_in : (r : Run) (c k : ℕ) → AreOrders r.orders → k < count_in r c → item_at (spans_for r c) k ≡ handed_to r c (start_in r c + k)
handed_in r c k a l = item_kept (begins_in r c) (span_for r c) (covers c (start_in r c + k)) (λ x. item_in r (other_in c x) (start_in r c + k)) k (spans_in r)
    (each_weaker (λ x. is_of c x ≡ true → LiesIn r c x) _ (spans_in r) (λ x h. (
      covers_test (is_of c x) (start_in r c) x.from x.to (end_in r c) k (λ j. (h j).opened) l,
      λ e. let p = and_parts (is_of c x && nat_le x.from (start_in r c + k)) (nat_lt (start_in r c + k) x.to) e in
          let q = and_parts (is_of c x) (nat_le x.from (start_in r c + k)) p.0 in
          item_of_period r c k x (h q.0) (leb-true x.from (start_in r c + k) q.1) (ltb-true (start_in r c + k) x.to p.1),
    )) (spans_lie r c a))
