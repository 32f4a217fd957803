-- The frames of a call as they are sent, by their numbers.
use Rattle.std.proofs.Common.{◌≡◌, refl, sym, ap, ◌∙◌, subst, ℕ, zero, suc, ◌+◌, ◌-◌, ◌<◌, ◌≤◌, Bool, true, Option, Some, None, List, [], ◌∷◌, ◌++◌, length}
use Rattle.std.proofs.Common.{map, take, drop, reverse, get_or, inl, inr, arith, length-append}
use Rattle.std.specs.Prelude.{if◌then◌else◌, ◌&&◌, not, nat_lt, is_some, is_none, unwrap_or, filter, Contains, ◌↔◌}
use Rattle.std.proofs.lemmas.Bool.{and_from, lt-ltb, cases_lt, cond-false}
use Rattle.std.proofs.lemmas.List.{map-append, length-map, length-reverse, drop_more, take-append-drop, get_or_append_left, get_or_push}
use Rattle.std.proofs.lemmas.List.Elements.{filter-append}
use Rattle.trau_frame.specs.declared.frames.DownFrame.{DownFrame}
use Rattle.trau_frame.specs.declared.frames.DownFrame.TheVariants.{Speech, Idle}
use Rattle.trau_orders.specs.Lists.{AreOrders}
use Rattle.switchboard.specs.declared.act.Span as board
use Rattle.switchboard.specs.Calls.{opened_at}
use Rattle.down_framer.specs.ByNumber.{when, numbered_of}
use Rattle.call_leg.specs.Who.{Who}
use Rattle.call_leg.specs.Periods.{CallPeriod}
use Rattle.call_leg.specs.Down.{down_periods, frames_of}
use Rattle.call_spec.specs.Call.{Call, Span, is_quiet_at, item_at}
use Rattle.call_spec.specs.Down.{first_frames, frame_by_number, frames_of_call, HasItem, is_coded, coded_goes_on, uncoded, stretch_frames, down_frames}
use Rattle.call_spec.specs.History.{IsCallHistory, call_of_history}
use Rattle.call_spec.specs.Whole.{IsWhole, periods_of_call}
use Rattle.call_spec.proofs.Stretched.{before, stretched-more}
use Rattle.call_spec.proofs.Bridges.Items.{made-in_order}
use Rattle.call_spec.proofs.Frames.{made-read, first-read}
use Rattle.call_spec.proofs.Sending.{frame_after, adds-frame}
use Rattle.call_spec.proofs.Whole.{history-whole, call-whole}
use Rattle.run_spec.specs.Run.{Run, done_in, spans_in, start_in, end_in, is_of}
use Rattle.run_calls_spec.specs.Whole.{begins_in, span_for, whole_call, IsBridged, item_for}
use Rattle.run_calls_spec.specs.Sent.{frame_count, sent_frames, frame_as_sent, CarriesHanded, Sends, IsFirstOfSpan}
use Rattle.run_calls_spec.proofs.Periods.{is_whole}
use Rattle.run_calls_spec.proofs.Items.{bridged_lies}
use Rattle.run_calls_spec.proofs.Places.{item_place, first_made}

-- ---- the frames that are made are the first ones

-- the made frames of a history are the first ones
made_read : (who : Who) (ts : List CallPeriod) → IsCallHistory ts →
    frames_of_call (call_of_history who ts) ≡ reverse (first_frames (call_of_history who ts) (length (frames_of_call (call_of_history who ts))))
made_read who ts h =
    let call = call_of_history who ts in
    let n : length (frames_of_call call) ≡ length (frames_of ts) =
    ap length (made-read who ts h) ∙ length-reverse (map numbered_of (frames_of ts)) ∙ length-map (frames_of ts) numbered_of in
    made-read who ts h ∙ ap reverse (made-in_order (down_periods ts) h.bridges) ∙ ap reverse (sym (first-read who ts (length (frames_of ts)) h))
    ∙ ap (λ m. reverse (first_frames call m)) (sym n)

-- and so are those of a call as a whole
pub made_first : (call : Call) → IsWhole call → frames_of_call call ≡ reverse (first_frames call (length (frames_of_call call)))
made_first call h =
    subst (λ call. frames_of_call call ≡ reverse (first_frames call (length (frames_of_call call)))) (call-whole call h)
    (made_read call.who (periods_of_call call) (history-whole call h))

-- ---- as they are sent

-- frame j as it is sent after those before it
unfoldable pub frame_sent : Call → ℕ → DownFrame
frame_sent call j = frame_after call (frame_by_number call j) (before (coded_goes_on call) (frame_by_number call j) (first_frames call j))

-- one frame more is sent behind the others
pub sent_more : (call : Call) (m : ℕ) →
    down_frames call (reverse (first_frames call (suc m))) ≡ down_frames call (reverse (first_frames call m)) ++ frame_sent call m ∷ []
unfolding frame_sent
sent_more call m =
    stretched-more (coded_goes_on call) (stretch_frames call) (λ f s. frame_after call f s ∷ []) (adds-frame call) (frame_by_number call m)
    (first_frames call m)

-- each frame is sent once
pub length-sent : (call : Call) (m : ℕ) → length (down_frames call (reverse (first_frames call m))) ≡ m
length-sent call zero = refl
length-sent call (suc m) =
    let rest = length-sent call m in
    ap length (sent_more call m) ∙ length-append (down_frames call (reverse (first_frames call m))) (frame_sent call m ∷ []) ∙ omega arith

-- frame j as it is sent
pub sent_at : (call : Call) (m j : ℕ) → j < m → get_or (down_frames call (reverse (first_frames call m))) j Idle ≡ frame_sent call j
sent_at call zero j l = absurd (omega arith)
sent_at call (suc m) j l =
    let n = length-sent call m in
    ap (λ fs. get_or fs j Idle) (sent_more call m) ∙ elim (cases_lt j m) [
      | inl old ↦ get_or_append_left (down_frames call (reverse (first_frames call m))) (frame_sent call m ∷ []) Idle j (omega arith) ∙ sent_at call m j old
      | inr now ↦
          let e : m ≡ j = omega arith in
          get_or_push (down_frames call (reverse (first_frames call m))) (frame_sent call m) Idle j (omega arith) ∙ ap (frame_sent call) e
    ]

-- a frame that carries an item is a speech frame of it
pub carrying : (call : Call) (j h : ℕ) → (frame_by_number call j).carries ≡ Some h → frame_sent call j ≡ Speech (unwrap_or (item_at call.spans h) []) true
unfolding frame_sent
carrying call j h e =
    cond-false (is_coded call (frame_by_number call j)) _ (uncoded call (frame_by_number call j))
    (ap (λ o. is_none o && not (is_quiet_at call (when (frame_by_number call j).start))) e)
    ∙ ap (λ (o : Option ℕ). elim o as (λ x. DownFrame) [ Some h ↦ Speech (unwrap_or (item_at call.spans h) []) true | None ↦ Idle ]) e

-- **Each frame that is made is sent.**
pub each_sent : (r : Run) (c : ℕ) → AreOrders r.orders → is_some (opened_at c (done_in r)) ≡ true → length (sent_frames r c) ≡ frame_count r c
each_sent r c a o =
    ap (λ fs. length (down_frames (whole_call r c) fs)) (made_first (whole_call r c) (is_whole r c a o)) ∙ length-sent (whole_call r c) (frame_count r c)

-- ---- the span among those of the call

-- where an element stands
split_at : {X : Type 0} (xs : List X) (x : X) → Contains xs x → (front : List X) × (back : List X) × (xs ≡ front ++ x ∷ back)
split_at xs x h =
    (take h.0 xs, drop (h.0 + 1) xs, sym (take-append-drop h.0 xs) ∙ ap (λ z. take h.0 xs ++ z) (drop_more xs h.0 x h.1 ∙ ap (λ y. y ∷ drop (h.0 + 1) xs) h.2))

-- where it stands among those that are kept
pub kept_among : {X Y : Type 0} (q : X → Bool) (f : X → Y) (xs : List X) (x : X) → Contains xs x → q x ≡ true →
    (front : List Y) × (back : List Y) × (map f (filter q xs) ≡ front ++ f x ∷ back)
kept_among q f xs x h k =
    let s = split_at xs x h in (
      map f (filter q s.0),
      map f (filter q s.1),
      ap (λ xs. map f (filter q xs)) s.2
          ∙ ap (map f) (filter-append q s.0 (x ∷ s.1) ∙ ap (λ (b : Bool). filter q s.0 ++ (if b then x ∷ filter q s.1 else filter q s.1)) k)
          ∙ map-append f (filter q s.0) (x ∷ filter q s.1),
    )

-- the span of a bridge begins before the end of the call
pub bridged_begins : (r : Run) (c t : ℕ) (x : board.Span) → AreOrders r.orders → IsBridged r c t x → begins_in r c x ≡ true
bridged_begins r c t x a b =
    let k = bridged_lies r c t x a b in
    and_from (is_of c x) (nat_lt x.from (end_in r c)) b.call (lt-ltb x.from (end_in r c) (within x.from t x.to (end_in r c) b.begun b.lasts k.over))
  where
    within : (from t to e : ℕ) → from ≤ t → t < to → to ≤ e → from < e
    within from t to e k l m = omega arith

-- what the laws of a whole call say of its frames
abbrev pub CarriesItems : Type 0
CarriesItems =
    (call : Call) (before after : List Span) (span : Span) (j i : ℕ) → IsWhole call → call.spans ≡ before ++ span ∷ after → j < length
    (frames_of_call call) → HasItem call span j i →
    (frame_by_number call j).carries ≡ Some (span.from + i)

-- **The frame that has what is handed over in a period carries that period.**
pub handed_carried : CarriesItems → (r : Run) (c t : ℕ) (x : board.Span) (j : ℕ) → AreOrders r.orders → Sends r c t x j →
    (frame_by_number (whole_call r c) j).carries ≡ Some (t - start_in r c)
handed_carried items r c t x j a s =
    let k = bridged_lies r c t x a s.bridged in
    let among = kept_among (begins_in r c) (span_for r c) (spans_in r) x s.bridged.span (bridged_begins r c t x a s.bridged) in
    items (whole_call r c) among.0 among.1 (span_for r c x) j (t - x.from) (is_whole r c a k.known) among.2 s.made s.carries
    ∙ ap Some (counted (start_in r c) x.from t k.opened s.bridged.begun)
  where
    counted : (s from t : ℕ) → s ≤ from → from ≤ t → from - s + (t - from) ≡ t - s
    counted s from t k l = omega arith

-- **What is sent in frame j.**
pub frame_is : (r : Run) (c t : ℕ) (x : board.Span) (j : ℕ) → AreOrders r.orders → Sends r c t x j → frame_as_sent r c j ≡ frame_sent (whole_call r c) j
frame_is r c t x j a s =
    let call = whole_call r c in
    let whole = is_whole r c a (bridged_lies r c t x a s.bridged).known in
    ap (λ fs. get_or (down_frames call fs) j Idle) (made_first call whole) ∙ sent_at call (frame_count r c) j s.made

-- **It is the speech frame of what is handed over.**
pub sent_handed : CarriesItems → (r : Run) (c t : ℕ) (x : board.Span) (j : ℕ) (item : List ℕ) → AreOrders r.orders → Sends r c t x j →
    item_for r c t ≡ Some item → frame_as_sent r c j ≡ Speech item true
sent_handed items r c t x j item a s e =
    frame_is r c t x j a s ∙ carrying (whole_call r c) j (t - start_in r c) (handed_carried items r c t x j a s) ∙ ap (λ o. Speech (unwrap_or o []) true) e

-- ---- in order, and once

-- **What is handed over in a period goes out in the first frame made in the span, or as many frames after it.**
pub handed_place : (r : Run) (c t : ℕ) (x : board.Span) (first j : ℕ) → AreOrders r.orders → IsBridged r c t x →
    IsFirstOfSpan (whole_call r c) (span_for r c x) first → CarriesHanded r c t x j ↔ (j ≡ first + (t - x.from))
handed_place r c t x first j a b f =
    let k = bridged_lies r c t x a b in
    item_place (whole_call r c) (span_for r c x) first j (t - x.from) f (within (start_in r c) x.from t x.to k.opened b.begun b.lasts)
  where
    within : (s from t to : ℕ) → s ≤ from → from ≤ t → t < to → t - from < (to - s) - (from - s)
    within s from t to k l m = omega arith

-- **What is handed over goes out in order.**
pub handed_in_order : (r : Run) (c t u : ℕ) (x : board.Span) (j k : ℕ) → AreOrders r.orders → IsBridged r c t x → IsBridged r c u x → CarriesHanded r c t x j →
    CarriesHanded r c u x k → t < u → j < k
handed_in_order r c t u x j k a b d h g l =
    let f = first_made (whole_call r c) (span_for r c x) in
    ordered x.from t u f.0 j k b.begun l ((handed_place r c t x f.0 j a b f.1).0 h) ((handed_place r c u x f.0 k a d f.1).0 g)
  where
    ordered : (from t u first j k : ℕ) → from ≤ t → t < u → j ≡ first + (t - from) → k ≡ first + (u - from) → j < k
    ordered from t u first j k l m p q = omega arith

-- **And once.**
pub handed_once : (r : Run) (c t : ℕ) (x : board.Span) (j k : ℕ) → AreOrders r.orders → IsBridged r c t x → CarriesHanded r c t x j → CarriesHanded r c t x k →
    j ≡ k
handed_once r c t x j k a b h g =
    let f = first_made (whole_call r c) (span_for r c x) in
    (handed_place r c t x f.0 j a b f.1).0 h ∙ sym ((handed_place r c t x f.0 k a b f.1).0 g)
