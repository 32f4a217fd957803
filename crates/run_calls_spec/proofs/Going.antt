-- What a call is handed goes out: the frames that carry it are made in the period in which it is handed over or in the
-- next one.
use Rattle.std.proofs.Common.{◌≡◌, refl, sym, ap, ◌∙◌, subst, ℕ, zero, suc, ◌+◌, ◌-◌, ◌*◌, ◌<◌, ◌≤◌, Bool, true, false, Some, List, [], ◌∷◌, ◌++◌, length, map}
use Rattle.std.proofs.Common.{reverse, inl, inr, arith, length-append}
use Rattle.std.specs.Prelude.{◌==◌, if◌then◌else◌, nat_lt, is_some, filter, Contains}
use Rattle.std.proofs.lemmas.Bool.{cases_lt, and_from, le-leb, lt-ltb, or_left, or_right, eq-eqb}
use Rattle.std.proofs.lemmas.List.{length-reverse}
use Rattle.std.proofs.lemmas.List.Elements.{filter-append}
use Rattle.time_align.specs.Shift.{greatest_shift}
use Rattle.trau_orders.specs.Lists.{AreOrders}
use Rattle.switchboard.specs.declared.act.Span as board
use Rattle.switchboard.specs.Calls.{opened_at}
use Rattle.down_framer.specs.ByNumber.{NumberedFrame, when, numbered_of}
use Rattle.call_leg.specs.Down.{frames_of}
use Rattle.call_spec.specs.Call.{Call, Span, periods}
use Rattle.call_spec.specs.Down.{first_frames, frame_by_number, made_among, frames_of_call}
use Rattle.call_spec.specs.Whole.{IsWhole}
use Rattle.call_spec.proofs.Stretched.{reverse-more}
use Rattle.call_spec.proofs.Frames.{made-read}
use Rattle.call_spec.proofs.Whole.{history-whole, call-whole}
use Rattle.run_spec.specs.Run.{who_in, Run, done_in, spans_in, start_in, end_in, is_of, periods_in}
use Rattle.run_spec.specs.Facts.{carries_in, sent_by, span_line}
use Rattle.run_spec.proofs.Frames.Sent.{sent_or_lost}
use Rattle.run_calls_spec.specs.Whole.{begins_in, span_for, whole_call, IsBridged}
use Rattle.run_calls_spec.specs.Sent.{frame_count, CarriesHanded, Sends, WaitsUnsent, IsFirstOfSpan, frames_with}
use Rattle.run_calls_spec.proofs.Spans.{LiesIn}
use Rattle.run_calls_spec.proofs.Periods.{is_whole, history_same, count_periods}
use Rattle.run_calls_spec.proofs.Items.{span_lies, bridged_lies}
use Rattle.run_calls_spec.proofs.Places.{made_later, item_place, first_made, first_start, item_start, count, count_more, count_all}
use Rattle.run_calls_spec.proofs.Sent.{made_first, kept_among, bridged_begins, CarriesItems, handed_carried, handed_place}

-- ---- a frame is made where its last octet comes in a period of the call

-- what the laws of a whole call say of how many frames it makes
abbrev pub AreEnough : Type 0
AreEnough = (call : Call) (m : ℕ) → IsWhole call → 2 * periods call ≤ m → made_among call m ≡ made_among call (2 * periods call)

-- a frame whose last octet comes within the call is made
is_made : AreEnough → (call : Call) (j : ℕ) → IsWhole call → when (frame_by_number call j).start < periods call → j < length (frames_of_call call)
is_made enough call j whole l =
    let soon : NumberedFrame → Bool = λ f. nat_lt (when f.start) (periods call) in
    let from_first : (i : ℕ) → i ≡ 0 + i = λ i. omega arith in
    let each : (i : ℕ) → i < suc j → soon (frame_by_number call i) ≡ true =
    λ i m. let e = made_later call i j (omega arith) in lt-ltb (when (frame_by_number call i).start) (periods call) (omega arith) in
    let all : suc j ≤ count soon call (suc j) =
    subst (λ n. suc j ≤ count soon call n) (sym (from_first (suc j)))
    (count_all soon call 0 (suc j) (λ i m. subst (λ k. soon (frame_by_number call k) ≡ true) (from_first i) (each i m))) in
    let more = count_more soon call (suc j) (2 * periods call + suc j) (omega arith) in
    let same : length (frames_of_call call) ≡ count soon call (2 * periods call + suc j) =
    length-reverse (made_among call (2 * periods call)) ∙ ap length (sym (enough call (2 * periods call + suc j) whole (omega arith))) in
    omega arith

-- ---- the frames that carry items

module _ (items : CarriesItems) (enough : AreEnough) (call : Call) (before after : List Span) (span : Span) (first : ℕ) (whole : IsWhole call)
    (among : call.spans ≡ before ++ span ∷ after)
    (is_first : IsFirstOfSpan call span first) where
  -- the frame of item m, where those of the items before it are made
  next_made : (m : ℕ) → m < span.to - span.from → span.from + m + 1 < periods call → ((i : ℕ) → i < m → first + i < length (frames_of_call call)) →
      first + m < length (frames_of_call call)
  next_made m l e earlier =
      let start = item_start call first m
      (λ i k. (
        span.from + i,
        items call before after span (first + i) i whole among (earlier i k) ((item_place call span first (first + i) i is_first (omega arith)).1 refl),
      )) in
      let low = first_start call span first is_first in
      is_made enough call (first + m) whole (omega arith)

  -- **The frames of all items but that of the call's last period are made.**
  items_made : (m : ℕ) → m ≤ span.to - span.from → span.from + m < periods call → (i : ℕ) → i < m → first + i < length (frames_of_call call)
  items_made zero l e i k = absurd (omega arith)
  items_made (suc m) l e i k =
      let earlier = items_made m (omega arith) (omega arith) in
      elim (cases_lt i m) [
        | inl old ↦ earlier i old
        | inr new ↦
            let same : m ≡ i = omega arith in subst (λ i. first + i < length (frames_of_call call)) same (next_made m (omega arith) (omega arith) earlier)
      ]

-- **What is handed over goes out, but that of the call's very last period.**
pub handed_goes : CarriesItems → AreEnough → (r : Run) (c t : ℕ) (x : board.Span) → AreOrders r.orders → IsBridged r c t x → t + 1 < end_in r c →
    (j : ℕ) × Sends r c t x j
handed_goes items enough r c t x a b l =
    let call = whole_call r c in
    let k = bridged_lies r c t x a b in
    let among = kept_among (begins_in r c) (span_for r c) (spans_in r) x b.span (bridged_begins r c t x a b) in
    let f = first_made call (span_for r c x) in
    let n = placed (start_in r c) x.from t x.to (end_in r c) k.opened b.begun b.lasts l in
    let soon : (span_for r c x).from + suc (t - x.from) < periods call =
    subst (λ n. x.from - start_in r c + suc (t - x.from) < n) (sym (count_periods r c)) n.1 in
    let is =
    items_made items enough call among.0 among.1 (span_for r c x) f.0 (is_whole r c a k.known) among.2 f.1 (suc (t - x.from)) n.0 soon (t - x.from)
    (omega arith) in
    (f.0 + (t - x.from), record { bridged = b; made = is; carries = (handed_place r c t x f.0 (f.0 + (t - x.from)) a b f.1).1 refl })
  where
    placed : (s from t to e : ℕ) → s ≤ from → from ≤ t → t < to → t + 1 < e → (suc (t - from) ≤ (to - s) - (from - s)) × (from - s + suc (t - from) < e - s)
    placed s from t to e k l m n = (omega arith, omega arith)

-- ---- and soon

-- **It goes out in a frame that is made in the period in which it is handed over or in the next one.**
pub handed_soon : CarriesItems → AreEnough → (r : Run) (c t : ℕ) (x : board.Span) (j : ℕ) → AreOrders r.orders → IsBridged r c t x → CarriesHanded r c t x j →
    let made = start_in r c + when (frame_by_number (whole_call r c) j).start in (t ≤ made) × (made ≤ t + 1)
handed_soon items enough r c t x j a b h =
    let call = whole_call r c in
    let span = span_for r c x in
    let k = bridged_lies r c t x a b in
    let among = kept_among (begins_in r c) (span_for r c) (spans_in r) x b.span (bridged_begins r c t x a b) in
    let f = first_made call span in
    let n = placed (start_in r c) x.from t x.to (end_in r c) k.opened b.begun b.lasts k.over in
    let before : span.from + (t - x.from) < periods call = subst (λ n. x.from - start_in r c + (t - x.from) < n) (sym (count_periods r c)) n.1 in
    let made = items_made items enough call among.0 among.1 span f.0 (is_whole r c a k.known) among.2 f.1 (t - x.from) n.0 before in
    let each : (i : ℕ) → i < t - x.from → (h : ℕ) × ((frame_by_number call (f.0 + i)).carries ≡ Some h) =
    λ i l. (
      span.from + i,
      items call among.0 among.1 span (f.0 + i) i (is_whole r c a k.known) among.2 (made i l)
          ((item_place call span f.0 (f.0 + i) i f.1 (less i l n.0)).1 refl),
    ) in
    let start : (frame_by_number call (f.0 + (t - x.from))).start ≡ (frame_by_number call f.0).start + 160 * (t - x.from) =
    item_start call f.0 (t - x.from) each in
    let place : j ≡ f.0 + (t - x.from) = (handed_place r c t x f.0 j a b f.1).0 h in
    let here : (frame_by_number call j).start ≡ (frame_by_number call f.0).start + 160 * (t - x.from) =
    ap (λ (i : ℕ). (frame_by_number call i).start) place ∙ start in
    soon (start_in r c) x.from t (frame_by_number call f.0).start (frame_by_number call j).start k.opened b.begun f.1.begun (first_start call span f.0 f.1) here
  where
    placed : (s from t to e : ℕ) → s ≤ from → from ≤ t → t < to → to ≤ e → (t - from ≤ (to - s) - (from - s)) × (from - s + (t - from) < e - s)
    placed s from t to e k l m n = (omega arith, omega arith)

    less : (i : ℕ) → i < t - x.from → t - x.from ≤ (span_for r c x).to - (span_for r c x).from → i < (span_for r c x).to - (span_for r c x).from
    less i l m = omega arith

    soon : (s from t first start : ℕ) → s ≤ from → from ≤ t → from - s ≤ when first → first ≤ 160 * (from - s) + greatest_shift →
        start ≡ first + 160 * (t - from) →
        (t ≤ s + when start) × (s + when start ≤ t + 1)
    soon s from t first start k l m n e = (omega arith, omega arith)

-- **So between periods only that of the period just over waits.**
pub one_waits : CarriesItems → AreEnough → (r : Run) (c u t : ℕ) (x : board.Span) → AreOrders r.orders → WaitsUnsent r c u t x → u ≡ t + 1
one_waits items enough r c u t x a w =
    let f = first_made (whole_call r c) (span_for r c x) in
    let h : CarriesHanded r c t x (f.0 + (t - x.from)) = (handed_place r c t x f.0 (f.0 + (t - x.from)) a w.bridged f.1).1 refl in
    let soon = (handed_soon items enough r c t x (f.0 + (t - x.from)) a w.bridged h).1 in
    let unsent = w.unsent (f.0 + (t - x.from)) h in
    let handed = w.handed in
    omega (arith, soon, unsent, handed)

-- ---- how many go out

-- in either order as many pass a filter
filter_reverse : {X : Type 0} (p : X → Bool) (xs : List X) → length (filter p (reverse xs)) ≡ length (filter p xs)
filter_reverse p [] = refl
filter_reverse p (x ∷ xs) =
    ap (λ ys. length (filter p ys)) (reverse-more x xs) ∙ ap length (filter-append p (reverse xs) (x ∷ []))
    ∙ length-append (filter p (reverse xs)) (filter p (x ∷ [])) ∙ by (p x) (filter_reverse p xs)
  where
    by : (b : Bool) → length (filter p (reverse xs)) ≡ length (filter p xs) →
        length (filter p (reverse xs)) + length (if b then x ∷ [] else []) ≡ length (if b then x ∷ filter p xs else filter p xs)
    by true e = omega arith
    by false e = omega arith

filter_map : {X Y : Type 0} (p : Y → Bool) (f : X → Y) (xs : List X) → length (filter p (map f xs)) ≡ length (filter (λ x. p (f x)) xs)
filter_map p f [] = refl
filter_map p f (x ∷ xs) = by (p (f x)) (filter_map p f xs)
  where
    by : (b : Bool) → length (filter p (map f xs)) ≡ length (filter (λ x. p (f x)) xs) →
        length (if b then f x ∷ filter p (map f xs) else filter p (map f xs)) ≡ length (if b then x ∷ filter (λ x. p (f x)) xs else filter (λ x. p (f x)) xs)
    by true e = ap suc e
    by false e = e

-- a frame carries what was handed over in a span
abbrev of_span : Run → ℕ → board.Span → NumberedFrame → Bool
of_span r c x f = carries_in (x.from - start_in r c) (x.to - start_in r c) f.carries

-- **The report counts the frames that are made.**
pub sent_counted : (r : Run) (c : ℕ) (x : board.Span) → AreOrders r.orders → is_some (opened_at c (done_in r)) ≡ true →
    sent_by r x c ≡ length (filter (of_span r c x) (frames_of_call (whole_call r c)))
sent_counted r c x a o =
    let whole = is_whole r c a o in
    let history = history_same r c a in
    let read : frames_of_call (whole_call r c) ≡ reverse (map numbered_of (frames_of (periods_in r c))) =
    ap frames_of_call (sym (call-whole (whole_call r c) whole)) ∙ made-read (who_in r c) _ (history-whole (whole_call r c) whole)
    ∙ ap (λ ts. reverse (map numbered_of (frames_of ts))) history in
    sym (ap (λ fs. length (filter (of_span r c x) fs)) read ∙ filter_reverse (of_span r c x) (map numbered_of (frames_of (periods_in r c)))
    ∙ filter_map (of_span r c x) numbered_of (frames_of (periods_in r c)))

-- **Of what a call is handed in a span one frame at most is lost.**
few_lost : CarriesItems → AreEnough → (r : Run) (c : ℕ) (x : board.Span) → AreOrders r.orders → Contains (spans_in r) x → is_of c x ≡ true →
    x.to - x.from - sent_by r x c ≤ 1
few_lost items enough r c x a has joined = by (x.to - x.from - 1) refl
  where
    k : LiesIn r c x
    k = span_lies r c x a has joined

    f : (first : ℕ) × IsFirstOfSpan (whole_call r c) (span_for r c x) first
    f = first_made (whole_call r c) (span_for r c x)

    -- the frame of each period but the last
    each : (i : ℕ) → i < x.to - x.from - 1 → (f.0 + i < frame_count r c) × (of_span r c x (frame_by_number (whole_call r c) (f.0 + i)) ≡ true)
    each i l =
        let over = k.over in
        let opened = k.opened in
        let b : IsBridged r c (x.from + i) x = record { span = has; call = joined; begun = omega arith; lasts = omega arith } in
        let goes = handed_goes items enough r c (x.from + i) x a b (omega arith) in
        let place = (handed_place r c (x.from + i) x f.0 goes.0 a b f.1).0 goes.1.carries in
        let same : goes.0 ≡ f.0 + i = omega arith in
        let carries = handed_carried items r c (x.from + i) x goes.0 a goes.1 in (
          subst (λ j. j < frame_count r c) same goes.1.made,
          subst (λ j. of_span r c x (frame_by_number (whole_call r c) j) ≡ true) same
              (ap (carries_in (x.from - start_in r c) (x.to - start_in r c)) carries
              ∙ and_from _ _ (le-leb (x.from - start_in r c) (x.from + i - start_in r c) (omega arith))
              (lt-ltb (x.from + i - start_in r c) (x.to - start_in r c) (omega arith))),
        )

    by : (m : ℕ) → m ≡ x.to - x.from - 1 → x.to - x.from - sent_by r x c ≤ 1
    by zero e = omega arith
    by (suc m) e =
        let call = whole_call r c in
        let all = count_all (of_span r c x) call f.0 (suc m) (λ i l. (each i (omega arith)).1) in
        let last = (each m (omega arith)).0 in
        let more = count_more (of_span r c x) call (f.0 + suc m) (frame_count r c) (omega arith) in
        let sent : sent_by r x c ≡ count (of_span r c x) call (frame_count r c) =
        sent_counted r c x a k.known ∙ ap (λ fs. length (filter (of_span r c x) fs)) (made_first call (is_whole r c a k.known))
        ∙ filter_reverse (of_span r c x) (first_frames call (frame_count r c)) in
        omega arith

-- **Of what is handed over in a span at most one frame is lost.**
pub one_lost : CarriesItems → AreEnough → (r : Run) (x : board.Span) → AreOrders r.orders → Contains (spans_in r) x →
    ((span_line r x).lost_a ≤ 1) × ((span_line r x).lost_b ≤ 1)
one_lost items enough r x a has = (
  few_lost items enough r x.b x a has (or_right _ _ (eq-eqb x.b x.b refl)),
  few_lost items enough r x.a x a has (or_left _ _ (eq-eqb x.a x.a refl)),
)

-- ---- what the report's line of a bridge says

-- both calls of a span
both_lie : (r : Run) (x : board.Span) → AreOrders r.orders → Contains (spans_in r) x → LiesIn r x.a x × LiesIn r x.b x
both_lie r x a has = (
  span_lies r x.a x a has (or_left (x.a == x.a) (x.a == x.b) (eq-eqb x.a x.a refl)),
  span_lies r x.b x a has (or_right (x.b == x.a) (x.b == x.b) (eq-eqb x.b x.b refl)),
)

-- **It tells how many frames of the one the other made.**
pub frames_told : (r : Run) (x : board.Span) → AreOrders r.orders → Contains (spans_in r) x →
    ((span_line r x).sent_a ≡ frames_with r x.b x) × ((span_line r x).sent_b ≡ frames_with r x.a x)
frames_told r x a has = let k = both_lie r x a has in (sent_counted r x.b x a k.1.known, sent_counted r x.a x a k.0.known)

-- **What is handed over is sent or lost.**
pub all_told : (r : Run) (x : board.Span) → AreOrders r.orders → Contains (spans_in r) x → (x.from ≤ x.to) ×
    ((span_line r x).sent_a + (span_line r x).lost_a ≡ x.to - x.from) × ((span_line r x).sent_b + (span_line r x).lost_b ≡ x.to - x.from)
all_told r x a has = let all = sent_or_lost r x in ((both_lie r x a has).0.begun, all.0, all.1)
