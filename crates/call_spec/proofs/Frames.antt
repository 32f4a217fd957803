-- For crates above: the frames made in a history are the first ones of its call by number (`made-read`); later ones
-- don't start earlier.
use Rattle.std.proofs.Common.{◌≡◌, refl, sym, ap, ◌∙◌, subst, inl, inr, ℕ, ◌+◌, ◌*◌, ◌<◌, ◌≤◌, zero, suc, Bool, true, false, if◌then◌else◌, nat_lt, Option}
use Rattle.std.proofs.Common.{Some, None, List, [], ◌∷◌, ◌++◌, length, map, reverse, filter, All, arith}
use Rattle.std.proofs.lemmas.Bool.{cases_lt, le-leb, lt-ltb, le-ltb, cond-true, cond-false, and_from}
use Rattle.std.specs.Prelude.{is_some, ◌-◌, ◌&&◌, nat_le}
use Rattle.std.proofs.lemmas.List.{map-append, length-map, length-reverse}
use Rattle.std.proofs.lemmas.List.Elements.{All-head, All-tail}
use Rattle.down_framer.specs.Made.{MadeFrame}
use Rattle.down_framer.specs.ByNumber.{Bridge, NumberedFrame, when, count_from, carried_item, numbered_frames, numbered_start, longer, bridges_in, asked_fields}
use Rattle.down_framer.specs.ByNumber.{numbered_of}
use Rattle.down_framer.proofs.Carried.{numbered_start-of}
use Rattle.down_framer.proofs.FrameLaws.{in_time}
use Rattle.call_leg.specs.Who.{Who}
use Rattle.call_leg.specs.Periods.{CallPeriod}
use Rattle.call_leg.specs.Down.{down_periods, frames_of}
use Rattle.call_leg.proofs.Downlink.Enter.{length-down_periods}
use Rattle.call_leg.proofs.Downlink.Bounds.{frames-at_most}
use Rattle.call_spec.specs.Call.{Call, Span, periods, fields}
use Rattle.call_spec.specs.Down.{without_items, first_frames, frame_by_number, made_among, frames_of_call, HasItem}
use Rattle.call_spec.specs.History.{IsCallHistory, new_span, go_on, spans_in_history, call_of_history}
use Rattle.call_spec.proofs.Stretched.{map-reverse}
use Rattle.call_spec.proofs.Bridges.OneItem.{OneSpeaks, carried_item-speaks}
use Rattle.call_spec.proofs.Bridges.Items.{made-in_order, one-made}
use Rattle.call_spec.proofs.Reading.{length-settings_of, fields-read}

-- ---- bridges

bridge_new : (m n : ℕ) (o : Option (List ℕ)) → m ≡ n → without_items (new_span n o) ≡ record { from = m; to = if is_some o then m + 1 else m }
bridge_new m n None e = ap (λ n. without_items (new_span n None)) (sym e)
bridge_new m n (Some item) e = ap (λ n. without_items (new_span n (Some item))) (sym e)

bridges-go_on : (o : Option (List ℕ)) (spans : List Span) →
    map without_items (go_on o spans) ≡ (if is_some o then longer (map without_items spans) else map without_items spans)
bridges-go_on None spans = refl
bridges-go_on (Some item) [] = refl
bridges-go_on (Some item) (span ∷ others) = refl

bridges-read : (ts : List CallPeriod) → map without_items (spans_in_history ts) ≡ bridges_in (down_periods ts)
bridges-read [] = refl
bridges-read (t ∷ past) = by t.starts (bridges-read past)
  where
    by : (b : Bool) → map without_items (spans_in_history past) ≡ bridges_in (down_periods past) →
        map without_items (if b then new_span (length past) t.handed ∷ spans_in_history past else go_on t.handed (spans_in_history past)) ≡
        (if b then (let new : Bridge = record {
          from = length (down_periods past);
          to = if is_some t.handed then length (down_periods past) + 1 else length (down_periods past);
        } in new) ∷ bridges_in (down_periods past)
        else if is_some t.handed then longer (bridges_in (down_periods past)) else bridges_in (down_periods past))
    by true e =
        ap (λ b. b ∷ map without_items (spans_in_history past)) (bridge_new (length (down_periods past)) (length past) t.handed (length-down_periods past)) ∙
        ap (λ bs.
        (let new : Bridge = record {
          from = length (down_periods past);
          to = if is_some t.handed then length (down_periods past) + 1 else length (down_periods past);
        } in new) ∷ bs) e
    by false e = bridges-go_on t.handed (spans_in_history past) ∙ ap (λ bs. if is_some t.handed then longer bs else bs) e

-- ---- the frames of the call's periods

-- no later frame starts earlier
pub later_starts : (bridges : List Bridge) (fields : List (Option ℕ)) (m j : ℕ) → m ≤ j →
    numbered_start (numbered_frames bridges fields m) ≤ numbered_start (numbered_frames bridges fields j)
later_starts bridges fields m zero l =
    let e : m ≡ 0 = omega arith in
    subst (λ m. numbered_start (numbered_frames bridges fields m) ≤ numbered_start (numbered_frames bridges fields zero)) (sym e) (omega arith)
later_starts bridges fields m (suc j) l = elim (cases_lt j m) [
  | inl now ↦
      let e : m ≡ suc j = omega arith in
      subst (λ m. numbered_start (numbered_frames bridges fields m) ≤ numbered_start (numbered_frames bridges fields (suc j))) (sym e) (omega arith)
  | inr before ↦ let b = later_starts bridges fields m j before in omega arith
]

abbrev is_within : ℕ → NumberedFrame → Bool
is_within n f = nat_lt (when f.start) n

none_later : (bridges : List Bridge) (fields : List (Option ℕ)) (n m j : ℕ) → 160 * n < numbered_start (numbered_frames bridges fields m) + 160 → m ≤ j →
    filter (is_within n) (numbered_frames bridges fields j) ≡ filter (is_within n) (numbered_frames bridges fields m)
none_later bridges fields n m zero far l = let e : 0 ≡ m = omega arith in ap (λ j. filter (is_within n) (numbered_frames bridges fields j)) e
none_later bridges fields n m (suc j) far l = elim (cases_lt j m) [
  | inl now ↦ let e : suc j ≡ m = omega arith in ap (λ j. filter (is_within n) (numbered_frames bridges fields j)) e
  | inr before ↦
      let s = later_starts bridges fields m j before in
      cond-false (nat_lt (when (numbered_start (numbered_frames bridges fields j))) n) _ (filter (is_within n) (numbered_frames bridges fields j))
      (le-ltb (when (numbered_start (numbered_frames bridges fields j))) n (omega arith)) ∙
      none_later bridges fields n m j far before
]

all_within : {A : Type 0} (n : ℕ) (fs : List (MadeFrame A)) → All (λ f. (f.period ≡ when f.start) × (f.start + 160 ≤ 160 * n)) fs →
    filter (is_within n) (map numbered_of fs) ≡ map numbered_of fs
all_within n [] h = refl
all_within n (f ∷ fs) h =
    let one = All-head (λ f. (f.period ≡ when f.start) × (f.start + 160 ≤ 160 * n)) f fs h in
    let soon = one.1 in
    cond-true (nat_lt (when f.start) n) (numbered_of f ∷ filter (is_within n) (map numbered_of fs)) _ (lt-ltb (when f.start) n (omega arith)) ∙
    ap (λ gs. numbered_of f ∷ gs) (all_within n fs (All-tail (λ f. (f.period ≡ when f.start) × (f.start + 160 ≤ 160 * n)) f fs h))

-- where the call's first frame outside of its periods would start
far_enough : (ts : List CallPeriod) → IsCallHistory ts →
    160 * length ts < numbered_start (numbered_frames (reverse (bridges_in (down_periods ts))) (asked_fields (down_periods ts)) (length (frames_of ts))) + 160
far_enough ts h =
    let time = in_time (down_periods ts) in
    let next = time.next in
    let long = length-down_periods ts in
    let start = numbered_start-of (frames_of ts) in
    subst (λ fs. 160 * length ts < numbered_start fs + 160) (made-in_order (down_periods ts) h.bridges) (omega arith)

bridges-of : (ts : List CallPeriod) → map without_items (reverse (spans_in_history ts)) ≡ reverse (bridges_in (down_periods ts))
bridges-of ts = map-reverse without_items (spans_in_history ts) ∙ ap reverse (bridges-read ts)

-- the first frames of the call, by the periods
pub first-read : (who : Who) (ts : List CallPeriod) (j : ℕ) → IsCallHistory ts →
    first_frames (call_of_history who ts) j ≡ numbered_frames (reverse (bridges_in (down_periods ts))) (asked_fields (down_periods ts)) j
first-read who ts j h =
    ap (λ bs. numbered_frames bs (fields (call_of_history who ts)) j) (bridges-of ts) ∙
    ap (λ xs. numbered_frames (reverse (bridges_in (down_periods ts))) xs j) (fields-read who ts h)

among-read : (who : Who) (ts : List CallPeriod) (m : ℕ) → IsCallHistory ts → 2 * length ts ≤ m →
    made_among (call_of_history who ts) m ≡ map numbered_of (frames_of ts)
among-read who ts m h l =
    let n = length ts in
    let bridges = reverse (bridges_in (down_periods ts)) in
    let fields = asked_fields (down_periods ts) in
    let time = in_time (down_periods ts) in
    let most = frames-at_most ts in
    ap (λ n. filter (is_within n) (first_frames (call_of_history who ts) m)) (length-settings_of ts) ∙
    ap (filter (is_within n)) (first-read who ts m h) ∙
    none_later bridges fields n (length (frames_of ts)) m (far_enough ts h) (omega arith) ∙
    ap (filter (is_within n)) (sym (made-in_order (down_periods ts) h.bridges)) ∙
    all_within n (frames_of ts)
    (subst (λ k. All (λ f. (f.period ≡ when f.start) × (f.start + 160 ≤ 160 * k)) (frames_of ts)) (length-down_periods ts) time.made)

pub made-read : (who : Who) (ts : List CallPeriod) → IsCallHistory ts → frames_of_call (call_of_history who ts) ≡ reverse (map numbered_of (frames_of ts))
made-read who ts h = ap reverse (among-read who ts (2 * periods (call_of_history who ts)) h (let n = length-settings_of ts in omega arith))

pub enough : (who : Who) (ts : List CallPeriod) (m : ℕ) → IsCallHistory ts → 2 * periods (call_of_history who ts) ≤ m →
    made_among (call_of_history who ts) m ≡ made_among (call_of_history who ts) (2 * periods (call_of_history who ts))
enough who ts m h l =
    let n = length-settings_of ts in
    among-read who ts m h (omega arith) ∙ sym (among-read who ts (2 * periods (call_of_history who ts)) h (omega arith))

-- ---- items

has_item : (call : Call) (span : Span) (j i : ℕ) → HasItem call span j i →
    carried_item (without_items span ∷ []) (when (frame_by_number call j).start) (first_frames call j) ≡ Some (span.from + i)
has_item call span j i h =
    let fs = first_frames call j in
    let number = h.number in
    let left = h.left in
    cond-true (nat_le span.from (when (frame_by_number call j).start) && nat_lt (count_from span.from fs) (span.to - span.from))
    (Some (span.from + count_from span.from fs)) None
    (and_from _ _ (le-leb span.from (when (frame_by_number call j).start) h.begun) (lt-ltb (count_from span.from fs) (span.to - span.from) (omega arith))) ∙
    ap (λ i. Some (span.from + i)) (sym number)

pub item-carried : (who : Who) (ts : List CallPeriod) (before after : List Span) (span : Span) (j i : ℕ) → IsCallHistory ts →
    (call_of_history who ts).spans ≡ before ++ span ∷ after → j < length (frames_of_call (call_of_history who ts)) →
    HasItem (call_of_history who ts) span j i → (frame_by_number (call_of_history who ts) j).carries ≡ Some (span.from + i)
item-carried who ts before after span j i h e l has =
    let call = call_of_history who ts in
    let w = when (frame_by_number call j).start in
    let fs = first_frames call j in
    let n : length (frames_of_call call) ≡ length (frames_of ts) =
    ap length (made-read who ts h) ∙ length-reverse (map numbered_of (frames_of ts)) ∙ length-map (frames_of ts) numbered_of in
    let one = one-made (down_periods ts) j h.bridges (omega arith) in
    let at : OneSpeaks (map without_items call.spans) w fs =
    subst (λ bs. OneSpeaks bs w fs) (sym (bridges-of ts))
    (subst (λ fs. OneSpeaks (reverse (bridges_in (down_periods ts))) (when (numbered_start fs)) fs) (sym (first-read who ts j h)) one) in
    let parts : map without_items call.spans ≡ map without_items before ++ without_items span ∷ map without_items after =
    ap (map without_items) e ∙ map-append without_items before (span ∷ after) in
    ap (λ bs. carried_item bs w fs) parts ∙
    carried_item-speaks (map without_items before) (map without_items after) (without_items span) w (span.from + i) fs
    (subst (λ bs. OneSpeaks bs w fs) parts at)
    (has_item call span j i has)
