-- Which frame has which item: those from the first one made in the span on, one after another.
use Rattle.std.proofs.Common.{◌≡◌, refl, sym, ap, ◌∙◌, subst, ℕ, zero, suc, ◌+◌, ◌-◌, ◌*◌, ◌<◌, ◌≤◌, ℤ, pos, Bool, true, false, Option, Some, None, ◌∷◌, length}
use Rattle.std.proofs.Common.{map, inl, inr, ◌⊎◌, arith}
use Rattle.std.specs.Prelude.{if◌then◌else◌, nat_le, filter, ◌↔◌}
use Rattle.std.proofs.lemmas.Bool.{cases_Bool, cases_lt, lt-leb, le-leb, leb-true, leb-false}
use Rattle.time_align.specs.Shift.{greatest_shift, latest_shift, IsShift}
use Rattle.time_align.proofs.Shifts.{IsShift-latest_shift}
use Rattle.down_framer.specs.Made.{octets_to_next}
use Rattle.down_framer.specs.ByNumber.{NumberedFrame, when, count_from, carried_item, fields_to, numbered_start}
use Rattle.down_framer.proofs.Timing.{octets_of-bounds, none_or}
use Rattle.call_spec.specs.Call.{Call, Span, fields}
use Rattle.call_spec.specs.Down.{without_items, first_frames, frame_by_number, HasItem}
use Rattle.call_spec.proofs.Frames.{later_starts}
use Rattle.run_calls_spec.specs.Sent.{IsFirstOfSpan}

-- ---- frames start one after another

-- a later frame is made no earlier
pub made_later : (call : Call) (i j : ℕ) → i ≤ j → when (frame_by_number call i).start ≤ when (frame_by_number call j).start
made_later call i j l =
    rounded (numbered_start (first_frames call i)) (numbered_start (first_frames call j)) (later_starts (map without_items call.spans) (fields call) i j l)
  where
    rounded : (a b : ℕ) → a ≤ b → when a ≤ when b
    rounded a b l = omega arith

-- none of the first frames is made in the span
none_counted : (call : Call) (from k : ℕ) → ((i : ℕ) → i < k → when (frame_by_number call i).start < from) → count_from from (first_frames call k) ≡ 0
none_counted call from zero h = refl
none_counted call from (suc k) h =
    let before = first_frames call k in
    ap (λ (b : Bool). length
    (if b then frame_by_number call k ∷ filter (λ f. nat_le from (when f.start)) before else filter (λ f. nat_le from (when f.start)) before))
    (lt-leb from (when (frame_by_number call k).start) (h k (omega arith)))
    ∙ none_counted call from k (λ i l. h i (omega arith))

-- each from the first on is
each_counted : (call : Call) (span : Span) (first m : ℕ) → IsFirstOfSpan call span first → count_from span.from (first_frames call (first + m)) ≡ m
each_counted call span first zero f =
    let e : first + 0 ≡ first = omega arith in
    ap (λ k. count_from span.from (first_frames call k)) e ∙ none_counted call span.from first f.first
each_counted call span first (suc m) f =
    let e : first + suc m ≡ suc (first + m) = omega arith in
    let before = first_frames call (first + m) in
    let begun = f.begun in
    let later = made_later call first (first + m) (omega arith) in
    ap (λ k. count_from span.from (first_frames call k)) e
    ∙ ap (λ (b : Bool). length
    (if b then frame_by_number call (first + m) ∷ filter (λ f. nat_le span.from (when f.start)) before else filter
    (λ f. nat_le span.from (when f.start)) before))
    (le-leb span.from (when (frame_by_number call (first + m)).start) (omega arith))
    ∙ ap suc (each_counted call span first m f)

-- **Item i is that of the frame i after the first one.**
pub item_place : (call : Call) (span : Span) (first j i : ℕ) → IsFirstOfSpan call span first → i < span.to - span.from → HasItem call span j i ↔ (j ≡ first + i)
item_place call span first j i f l = (there, here)
  where
    there : HasItem call span j i → j ≡ first + i
    there h = elim (cases_lt j first) [
      | inl early ↦ let a = f.first j early in let b = h.begun in absurd (omega arith)
      | inr late ↦
          let e : first + (j - first) ≡ j = omega arith in
          let n : count_from span.from (first_frames call j) ≡ j - first =
          ap (λ k. count_from span.from (first_frames call k)) (sym e) ∙ each_counted call span first (j - first) f in
          let number = h.number in
          omega arith
    ]

    here : j ≡ first + i → HasItem call span j i
    here e = subst (λ j. HasItem call span j i) (sym e) (record {
      number = sym (each_counted call span first i f);
      begun = (let a = f.begun in let b = made_later call first (first + i) (omega arith) in omega arith);
      left = l;
    })

-- ---- there is a first one

-- each shift is a shift
pub shift_allowed : (call : Call) (j : ℕ) → IsShift (frame_by_number call j).shift
shift_allowed call j =
    let before = first_frames call j in
    let w = when (numbered_start before) in
    let counting = fields_to (fields call) w before in
    none_or (carried_item (map without_items call.spans) w before) (latest_shift counting) (IsShift-latest_shift counting)

-- frame n starts no earlier than octet n
starts_far : (call : Call) (n : ℕ) → n ≤ numbered_start (first_frames call n)
starts_far call zero = omega arith
starts_far call (suc n) =
    let rest = starts_far call n in
    let more = octets_of-bounds (frame_by_number call n).shift (shift_allowed call n) in
    let long = more.0 in
    omega arith

-- the first of which a test holds
least : (p : ℕ → Bool) (n : ℕ) → p n ≡ true → (k : ℕ) × (p k ≡ true) × ((i : ℕ) → i < k → p i ≡ false)
least p zero e = (0, e, λ i l. absurd (omega arith))
least p (suc n) e = by (least (λ i. p (suc i)) n e) (cases_Bool (p 0))
  where
    rest : (k : ℕ) → p 0 ≡ false → ((i : ℕ) → i < k → p (suc i) ≡ false) → (i : ℕ) → i < suc k → p i ≡ false
    rest k f h zero l = f
    rest k f h (suc i) l = h i (omega arith)

    by : ((k : ℕ) × (p (suc k) ≡ true) × ((i : ℕ) → i < k → p (suc i) ≡ false)) → (p 0 ≡ true) ⊎ (p 0 ≡ false) →
        (k : ℕ) × (p k ≡ true) × ((i : ℕ) → i < k → p i ≡ false)
    by r (inl t) = (0, t, λ i l. absurd (omega arith))
    by r (inr f) = (suc r.0, r.1, rest r.0 f r.2)

-- **There is a first frame made in a span.**
pub first_made : (call : Call) (span : Span) → (first : ℕ) × IsFirstOfSpan call span first
first_made call span =
    let n = 160 * span.from in
    let far = starts_far call n in
    let k =
    least (λ j. nat_le span.from (when (frame_by_number call j).start)) n
    (le-leb span.from (when (frame_by_number call n).start) (rounded span.from (numbered_start (first_frames call n)) far)) in (
      k.0,
      record {
        begun = leb-true span.from (when (frame_by_number call k.0).start) k.1;
        first = λ i l. leb-false span.from (when (frame_by_number call i).start) (k.2 i l);
      },
    )
  where
    rounded : (from start : ℕ) → 160 * from ≤ start → from ≤ when start
    rounded from start l = omega arith

-- **It starts less than a period after the span.**
pub first_start : (call : Call) (span : Span) (first : ℕ) → IsFirstOfSpan call span first →
    (frame_by_number call first).start ≤ 160 * span.from + greatest_shift
first_start call span zero f = omega arith
first_start call span (suc n) f =
    let before = f.first n (omega arith) in
    let far = (octets_of-bounds (frame_by_number call n).shift (shift_allowed call n)).1 in
    omega arith

-- ---- frames that carry items start 160 octets after one another

-- a frame that carries an item has no shift
pub unshifted : (call : Call) (j h : ℕ) → (frame_by_number call j).carries ≡ Some h → (frame_by_number call j).shift ≡ pos 0
unshifted call j h e =
    let before = first_frames call j in
    let asked = latest_shift (fields_to (fields call) (when (numbered_start before)) before) in
    ap (λ (o : Option ℕ). elim o as (λ x. ℤ) [ None ↦ asked | Some h ↦ pos 0 ]) e

-- so the frames of a bridge start 160 octets apart
pub item_start : (call : Call) (first m : ℕ) → ((i : ℕ) → i < m → (h : ℕ) × ((frame_by_number call (first + i)).carries ≡ Some h)) →
    (frame_by_number call (first + m)).start ≡ (frame_by_number call first).start + 160 * m
item_start call first zero h =
    let e : first + 0 ≡ first = omega arith in
    ap (λ k. (frame_by_number call k).start) e ∙ (let q : (frame_by_number call first).start ≡ (frame_by_number call first).start + 160 * 0 = omega arith in q)
item_start call first (suc m) h =
    let e : first + suc m ≡ suc (first + m) = omega arith in
    let rest = item_start call first m (λ i l. h i (omega arith)) in
    let item = h m (omega arith) in
    ap (λ k. (frame_by_number call k).start) e
    ∙ ap (λ shift. (frame_by_number call (first + m)).start + octets_to_next shift) (unshifted call (first + m) item.0 item.1)
    ∙ (let q : (frame_by_number call (first + m)).start + 160 ≡ (frame_by_number call first).start + 160 * suc m = omega arith in q)

-- ---- how many of the first frames are such

-- how many of the first m frames pass a test
abbrev pub count : (NumberedFrame → Bool) → Call → ℕ → ℕ
count p call m = length (filter p (first_frames call m))

-- of more frames no fewer do
pub count_more : (p : NumberedFrame → Bool) (call : Call) (k m : ℕ) → k ≤ m → count p call k ≤ count p call m
count_more p call k zero l = let e : 0 ≡ k = omega arith in subst (λ k. count p call k ≤ count p call 0) e (omega arith)
count_more p call k (suc m) l = elim (cases_lt m k) [
  | inl now ↦ let e : suc m ≡ k = omega arith in subst (λ k. count p call k ≤ count p call (suc m)) e (omega arith)
  | inr before ↦ by (p (frame_by_number call m)) (count_more p call k m before)
]
  where
    by : (b : Bool) → count p call k ≤ count p call m →
        count p call k ≤ length (if b then frame_by_number call m ∷ filter p (first_frames call m) else filter p (first_frames call m))
    by true rest = omega arith
    by false rest = rest

-- where m frames after one another are
pub count_all : (p : NumberedFrame → Bool) (call : Call) (k m : ℕ) → ((i : ℕ) → i < m → p (frame_by_number call (k + i)) ≡ true) → m ≤ count p call (k + m)
count_all p call k zero h = omega arith
count_all p call k (suc m) h =
    let e : suc (k + m) ≡ k + suc m = omega arith in
    let rest = count_all p call k m (λ i l. h i (omega arith)) in
    let one : count p call (suc (k + m)) ≡ suc (count p call (k + m)) =
    ap (λ (b : Bool). length (if b then frame_by_number call (k + m) ∷ filter p (first_frames call (k + m)) else filter p (first_frames call (k + m))))
    (h m (omega arith)) in
    subst (λ n. suc m ≤ count p call n) e (omega arith)
