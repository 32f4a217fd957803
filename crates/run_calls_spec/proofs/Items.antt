-- In which span of a call a period lies, and what it is handed then.
use Rattle.std.proofs.Common.{◌≡◌, refl, sym, ap, ◌∙◌, ℕ, suc, ◌+◌, ◌-◌, ◌<◌, ◌≤◌, Bool, true, false, Option, Some, None, List, [], ◌∷◌, arith}
use Rattle.std.specs.Prelude.{◌==◌, ◌&&◌, if◌then◌else◌, nat_lt, nat_le, Contains, find, option_map}
use Rattle.std.specs.List.{AllByRecursion}
use Rattle.std.proofs.lemmas.Bool.{true≢false, and_parts, and_from, eq-eqb, ltb-true, lt-ltb, le-leb, leb-true, or_left, or_right, false_from_ne_true}
use Rattle.std.proofs.lemmas.List.Elements.{All-from_recursion, recursion_from_All, All-contains, All-contains_itself}
use Rattle.trau_orders.specs.Lists.{AreOrders}
use Rattle.switchboard.specs.declared.act.Span as board
use Rattle.switchboard.specs.declared.table.Bridge.{Bridge}
use Rattle.switchboard.specs.Bridges.{bridges, joins}
use Rattle.run_spec.specs.Run.{Run, whole_in, given_in, done_in, spans_in, start_in, end_in, is_of, other_in, span_at, handed_to, ups_to, item_of}
use Rattle.run_spec.proofs.Lists.{each_all, each_weaker, find_none, found, none_each, AtMostOne, one_weaker, one_found}
use Rattle.run_spec.proofs.Bridges.Standing.{Standing, NeverOverlap, IsSoundBridge, over_by}
use Rattle.run_spec.proofs.Periods.Settled.{covers, to_of}
use Rattle.run_spec.proofs.Periods.SoFar.{standing_end}
use Rattle.run_spec.proofs.Bridges.Covered.{over_within}
use Rattle.run_calls_spec.specs.Whole.{item_in, IsBridged, item_for}
use Rattle.run_calls_spec.proofs.Spans.{LiesIn, span_in, spans_lie, handed_in}

-- ---- the span of a period

-- of a call's bridges one at most covers a period
one_covers : (r : Run) (c t : ℕ) (xs : List Bridge) → Standing (whole_in r) r.periods (done_in r) → NeverOverlap (whole_in r) (done_in r) xs →
    AllByRecursion (IsSoundBridge (whole_in r) r.periods (done_in r)) xs → AtMostOne (λ x. covers c t (span_in r x)) xs
one_covers r c t [] st n h = tt
one_covers r c t (x ∷ xs) st n h = (
  λ e. find_none (λ y. covers c t (span_in r y)) xs
      (each_weaker (λ y. (c : ℕ) → joins c x ≡ true → joins c y ≡ true → over_by (whole_in r) y.from (done_in r) x ≡ true)
      (λ y. covers c t (span_in r y) ≡ false) xs
      (λ y f. false_from_ne_true _ (λ g. apart x y h.0 f e g)) n.0),
  one_covers r c t xs st n.1 h.1,
)
  where
    apart : (x y : Bridge) → IsSoundBridge (whole_in r) r.periods (done_in r) x →
        ((c : ℕ) → joins c x ≡ true → joins c y ≡ true → over_by (whole_in r) y.from (done_in r) x ≡ true) →
        covers c t (span_in r x) ≡ true → covers c t (span_in r y) ≡ true → ⊥
    apart x y s f e g =
        let p = and_parts (joins c x && nat_le x.from t) (nat_lt t (to_of (span_in r x))) e in
        let q = and_parts (joins c y && nat_le y.from t) (nat_lt t (to_of (span_in r y))) g in
        let a = and_parts (joins c x) (nat_le x.from t) p.0 in
        let b = and_parts (joins c y) (nat_le y.from t) q.0 in
        let over : to_of (span_in r x) < y.from = over_within (given_in r) r.periods y.from (done_in r) x st s (f c a.0 b.0) in
        let low : y.from ≤ t = leb-true y.from t b.1 in
        let high : t < to_of (span_in r x) = ltb-true t (to_of (span_in r x)) p.1 in
        omega arith

-- the only one is found
find_is : {X : Type 0} (p : X → Bool) (xs : List X) (x : X) → AtMostOne p xs → Contains xs x → p x ≡ true → find p xs ≡ Some x
find_is p xs x one has passes = by (find p xs) refl
  where
    by : (o : Option _) → find p xs ≡ o → o ≡ Some x
    by None e = absurd (true≢false (sym passes ∙ All-contains (λ x. p x ≡ false) xs x (All-from_recursion (λ x. p x ≡ false) xs (none_each p xs e)) has))
    by (Some y) e =
        ap Some (sym (All-contains (λ x. p x ≡ true → x ≡ y) xs x (All-from_recursion (λ x. p x ≡ true → x ≡ y) xs (one_found p xs y one e)) has passes))

-- the span covers the period
bridged_covers : (r : Run) (c t : ℕ) (x : board.Span) → IsBridged r c t x → covers c t x ≡ true
bridged_covers r c t x b =
    and_from (is_of c x && nat_le x.from t) (nat_lt t x.to) (and_from (is_of c x) (nat_le x.from t) b.call (le-leb x.from t b.begun)) (lt-ltb t x.to b.lasts)

-- **It is the only one of the call that the period lies in.**
span_found : (r : Run) (c t : ℕ) (x : board.Span) → AreOrders r.orders → IsBridged r c t x → span_at r c t ≡ Some x
span_found r c t x a b =
    let st = standing_end r a in
    find_is (covers c t) (spans_in r) x
    (one_weaker (λ x. covers c t (span_in r x)) (covers c t) (span_in r) (bridges (done_in r)) (each_all _ (bridges (done_in r)) (λ x e. e))
    (one_covers r c t (bridges (done_in r)) st st.apart st.sound))
    b.span (bridged_covers r c t x b)

-- **Its partner is in the bridge too.**
pub partner_bridged : (r : Run) (c t : ℕ) (x : board.Span) → IsBridged r c t x → IsBridged r (other_in c x) t x
partner_bridged r c t x b = record { span = b.span; call = by (c == x.a); begun = b.begun; lasts = b.lasts }
  where
    by : (t : Bool) → is_of (if t then x.b else x.a) x ≡ true
    by true = or_right (x.b == x.a) (x.b == x.b) (eq-eqb x.b x.b refl)
    by false = or_left (x.a == x.a) (x.a == x.b) (eq-eqb x.a x.a refl)

-- each span of a call lies within it
pub span_lies : (r : Run) (c : ℕ) (x : board.Span) → AreOrders r.orders → Contains (spans_in r) x → is_of c x ≡ true → LiesIn r c x
span_lies r c x a =
    All-contains (λ x. is_of c x ≡ true → LiesIn r c x) (spans_in r) x
    (All-from_recursion (λ x. is_of c x ≡ true → LiesIn r c x) (spans_in r) (spans_lie r c a))

-- so does the span of a bridge
pub bridged_lies : (r : Run) (c t : ℕ) (x : board.Span) → AreOrders r.orders → IsBridged r c t x → LiesIn r c x
bridged_lies r c t x a b = span_lies r c x a b.span b.call

-- the call has each period of it
pub has_period : (r : Run) (c t : ℕ) (x : board.Span) → AreOrders r.orders → IsBridged r c t x → (start_in r c ≤ t) × (t < end_in r c)
has_period r c t x a b =
    let k = bridged_lies r c t x a b in
    within (start_in r c) x.from t x.to (end_in r c) k.opened b.begun b.lasts k.over
  where
    within : (s from t to e : ℕ) → s ≤ from → from ≤ t → t < to → to ≤ e → (s ≤ t) × (t < e)
    within s from t to e k l m n = (omega arith, omega arith)

-- and so has its partner
pub both_have : (r : Run) (c t : ℕ) (x : board.Span) → AreOrders r.orders → IsBridged r c t x →
    (start_in r c ≤ t) × (t < end_in r c) × (start_in r (other_in c x) ≤ t) × (t < end_in r (other_in c x))
both_have r c t x a b =
    let h = has_period r c t x a b in
    let k = has_period r (other_in c x) t x a (partner_bridged r c t x b) in
    (h.0, h.1, k.0, k.1)

-- ---- what is handed

-- a period of the run, counted from the opening
pub counted : (s t e : ℕ) → s ≤ t → t < e → (t - s < e - s) × (s + (t - s) ≡ t) × (t + 1 - s ≡ suc (t - s))
counted s t e l m = (omega arith, omega arith, omega arith)

-- what a call is handed in a period that it has, by the run
handed_on : (r : Run) (c t : ℕ) → AreOrders r.orders → start_in r c ≤ t → t < end_in r c → item_for r c t ≡ handed_to r c t
handed_on r c t a l m =
    let n = counted (start_in r c) t (end_in r c) l m in
    handed_in r c (t - start_in r c) a n.0 ∙ ap (handed_to r c) n.1

-- **What is handed over is the item of the partner.**
pub item_found : (r : Run) (c t : ℕ) (x : board.Span) → AreOrders r.orders → IsBridged r c t x →
    item_for r c t ≡ Some (item_of (other_in c x) (ups_to r (other_in c x) (suc (t - start_in r (other_in c x)))))
item_found r c t x a b =
    let h = both_have r c t x a b in
    let d = other_in c x in
    handed_on r c t a h.0 h.1 ∙ ap (option_map (λ x. item_in r (other_in c x) t)) (span_found r c t x a b)
    ∙ ap (λ n. Some (item_of d (ups_to r d n))) (counted (start_in r d) t (end_in r d) h.2 h.3).2

-- **Outside of its spans a call is handed nothing.**
pub handed_none : (r : Run) (c t : ℕ) → AreOrders r.orders → start_in r c ≤ t → t < end_in r c → ((x : board.Span) → IsBridged r c t x → ⊥) →
    item_for r c t ≡ None
handed_none r c t a l m h = handed_on r c t a l m ∙ ap (option_map (λ x. item_in r (other_in c x) t)) (by (span_at r c t) refl)
  where
    by : (o : Option board.Span) → span_at r c t ≡ o → o ≡ None
    by None e = refl
    by (Some x) e =
        let f =
        found (Contains (spans_in r)) (covers c t) (spans_in r) x
        (recursion_from_All (Contains (spans_in r)) (spans_in r) (All-contains_itself (spans_in r))) e in
        let p = and_parts (is_of c x && nat_le x.from t) (nat_lt t x.to) f.1 in
        let q = and_parts (is_of c x) (nat_le x.from t) p.0 in
        absurd (h x (record { span = f.0; call = q.0; begun = leb-true x.from t q.1; lasts = ltb-true t x.to p.1 }))
