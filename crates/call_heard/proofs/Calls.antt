-- The frames of a call as a whole are found.
use Rattle.std.proofs.Common.{◌≡◌, refl, sym, ◌∙◌, ap, subst, ℕ, ◌+◌, ◌-◌, ◌*◌, zero, suc, ◌&&◌, nat_le, nat_lt, Some, IfSome, All, List, [], ◌∷◌, ◌++◌, length}
use Rattle.std.proofs.Common.{map, reverse, get_or, arith, length-append}
use Rattle.std.specs.List.{zip}
use Rattle.std.proofs.lemmas.Bool.{cond_both, and_parts, leb-true, ltb-true}
use Rattle.std.proofs.lemmas.List.{length-map, length-reverse, map-append}
use Rattle.std.proofs.lemmas.List.Elements.{All-nil, All-cons, All-head, All-tail}
use Rattle.trau_bits.specs.Bits.{bits_of, octets_of, AreBits}
use Rattle.down_framer.specs.ByNumber.{numbered_of}
use Rattle.down_framer.proofs.Store.{AreInTurn, AreInTurn-made_frames}
use Rattle.ccu_end.specs.Found.{Found, all_within, as_made, places_from, shifts_of}
use Rattle.ccu_end.proofs.Shifts.{made-places}
use Rattle.call_leg.specs.Who.{Who}
use Rattle.call_leg.specs.Periods.{CallPeriod}
use Rattle.call_leg.specs.Down.{CallFrame, down_line, down_periods, frames_of, frame_now}
use Rattle.call_spec.specs.Call.{Call, Span, periods, item_at}
use Rattle.call_spec.specs.Down.{coded_goes_on, stretch_frames, down_frames, frames_of_call, down}
use Rattle.call_spec.specs.History.{IsCallHistory, call_of_history}
use Rattle.call_spec.specs.Whole.{AreSpans, IsWhole, first_periods, periods_of_call}
use Rattle.call_spec.proofs.Stretched.{reverse-more, stretched-more}
use Rattle.call_spec.proofs.Reading.{LooksBack, length-settings_of}
use Rattle.call_spec.proofs.Frames.{made-read}
use Rattle.call_spec.proofs.Bridges.Loads.{ArePlaced, placed}
use Rattle.call_spec.proofs.Sending.{zip-more, frame_after, adds-frame}
use Rattle.call_spec.proofs.DownLine.{frame-placed, down-whole}
use Rattle.call_spec.proofs.Whole.{history-whole, call-whole}
use Rattle.call_heard.specs.Heard.{found_as, found_among, found_of, SpansHandFrames}
use Rattle.call_heard.proofs.Legs.{PeriodsHandFrames, leg-found}
use Rattle.call_heard.proofs.Lines.{line-again}

-- ---- the frames of a history, by number and as its leg makes them

-- the frames of a history as they are found, by the call as a whole
record Heard (who : Who) (ts : List CallPeriod) (fs : List CallFrame) : Type 0 where
  count : length (down_frames (call_of_history who ts) (reverse (map numbered_of fs))) ≡ length fs
  is : found_among (call_of_history who ts) (reverse (map numbered_of fs)) ≡ as_made (frame_now who) fs
  shifts : map (λ f. f.shift) (reverse (map numbered_of fs)) ≡ shifts_of fs

-- they are the same
heard : LooksBack → (who : Who) (ts : List CallPeriod) (fs : List CallFrame) → IsCallHistory ts → ArePlaced ts fs → AreInTurn fs → Heard who ts fs
heard look who ts [] h p t = record { count = refl; is = refl; shifts = refl }
heard look who ts (f ∷ fs) h p t =
    let call = call_of_history who ts in
    let g = numbered_of f in
    let gs = map numbered_of fs in
    let frames = down_frames call (reverse gs) in
    let now = frame_now who (f ∷ fs) in
    let before = heard look who ts fs h p.1 t.2 in
    let count = before.count in
    let n = length-reverse gs in
    let m = length-map fs numbered_of in
    let grown : down_frames call (reverse (g ∷ gs)) ≡ frames ++ now ∷ [] =
    stretched-more (coded_goes_on call) (stretch_frames call) (λ f s. frame_after call f s ∷ []) (adds-frame call) g gs ∙
    ap (λ d. frames ++ d ∷ []) (frame-placed look who ts f fs h p t) in
    record {
      count = ap length grown ∙ length-append frames (now ∷ []) ∙ omega arith;
      is = ap (λ ds. map found_as (zip (reverse (g ∷ gs)) ds)) grown ∙
          ap (λ fs'. map found_as (zip fs' (frames ++ now ∷ []))) (reverse-more g gs) ∙
          ap (map found_as) (zip-more (reverse gs) frames g now (omega arith)) ∙
          map-append found_as (zip (reverse gs) frames) ((g, now) ∷ []) ∙
          ap (λ z. z ++ found_as (g, now) ∷ []) before.is;
      shifts = ap (map (λ f. f.shift)) (reverse-more g gs) ∙ map-append (λ f. f.shift) (reverse gs) (g ∷ []) ∙ ap (λ z. z ++ f.shift ∷ []) before.shifts;
    }

module _ (look : LooksBack) (who : Who) (ts : List CallPeriod) (h : IsCallHistory ts) where
  all : Heard who ts (frames_of ts)
  all = heard look who ts (frames_of ts) h (placed ts) (AreInTurn-made_frames (down_periods ts))

  found-made : found_of (call_of_history who ts) ≡ as_made (frame_now who) (frames_of ts)
  found-made = ap (found_among (call_of_history who ts)) (made-read who ts h) ∙ all.is

  history-found : PeriodsHandFrames ts →
      Found (down (call_of_history who ts)) (all_within (320 * periods (call_of_history who ts)) (found_of (call_of_history who ts)))
  history-found hands =
      subst (λ bits. Found bits (all_within (320 * periods (call_of_history who ts)) (found_of (call_of_history who ts)))) (down-whole look who ts h)
      (subst (λ fs. Found (down_line who ts) (all_within (320 * periods (call_of_history who ts)) fs)) (sym found-made)
      (subst (λ n. Found (down_line who ts) (all_within (320 * n) (as_made (frame_now who) (frames_of ts)))) (sym (length-settings_of ts))
      (leg-found who ts hands)))

  history-places : map (λ f. f.place) (found_of (call_of_history who ts)) ≡ places_from 320 (map (λ f. f.shift) (frames_of_call (call_of_history who ts)))
  history-places =
      ap (map (λ f. f.place)) found-made ∙ made-places (frame_now who) (down_periods ts) ∙
      ap (places_from 320) (sym (ap (map (λ f. f.shift)) (made-read who ts h) ∙ all.shifts))

  history-each : length (down_frames (call_of_history who ts) (frames_of_call (call_of_history who ts))) ≡ length (frames_of_call (call_of_history who ts))
  history-each =
      let all-made = made-read who ts h in
      let n = length-reverse (map numbered_of (frames_of ts)) in
      let m = length-map (frames_of ts) numbered_of in
      ap (λ fs. length (down_frames (call_of_history who ts) fs)) all-made ∙ all.count ∙ sym m ∙ sym n ∙ ap length (sym all-made)

-- ---- what the spans of a call hand over

-- what holds of all items holds of that of a period
item-has : (P : List ℕ → Type 0) (spans : List Span) (low n : ℕ) → AreSpans low n spans → All (λ span. All P span.items) spans → (k : ℕ) →
    IfSome (item_at spans k) P
item-has P [] low n are items k = tt
item-has P (span ∷ spans) low n are items k =
    let rest = item-has P spans (span.to + 1) n are.4 (All-tail (λ span. All P span.items) span spans items) k in
    let all : All P span.items = All-head (λ span. All P span.items) span spans items in
    let many : span.from + length span.items ≡ span.to = are.3 in
    cond_both (nat_le span.from k && nat_lt k span.to) (Some (get_or span.items (k - span.from) [])) (item_at spans k) (λ o. IfSome o P)
    (λ y. let two = and_parts (nat_le span.from k) (nat_lt k span.to) y in let above = leb-true span.from k two.0 in let below = ltb-true k span.to two.1 in all
    (k - span.from) [] (omega (arith, above, below, many)))
    (λ n. rest)

first-hands : (P : List ℕ → Type 0) (call : Call) (k : ℕ) → ((i : ℕ) → IfSome (item_at call.spans i) P) → All (λ t. IfSome t.handed P) (first_periods call k)
first-hands P call zero each = All-nil (λ t. IfSome t.handed P)
first-hands P call (suc k) each = All-cons (λ t. IfSome t.handed P) _ (first_periods call k) (each k) (first-hands P call k each)

-- so of all that is handed over
hands : (P : List ℕ → Type 0) (call : Call) → IsWhole call → All (λ span. All P span.items) call.spans → All (λ t. IfSome t.handed P) (periods_of_call call)
hands P call whole items = first-hands P call (periods call) (item-has P call.spans 0 (periods call) whole.spans items)

-- ---- a call as a whole

-- **The frames of a call are found at their places.**
pub call-found : LooksBack → (call : Call) → IsWhole call → SpansHandFrames call → Found (down call) (all_within (320 * periods call) (found_of call))
call-found look call whole items =
    subst (λ (c : Call). Found (down c) (all_within (320 * periods c) (found_of c))) (call-whole call whole)
    (history-found look call.who (periods_of_call call) (history-whole call whole) (hands (λ item. length item ≡ 260) call whole items))

-- **Their places are those of frames with these shifts.**
pub call-places : LooksBack → (call : Call) → IsWhole call → map (λ f. f.place) (found_of call) ≡ places_from 320 (map (λ f. f.shift) (frames_of_call call))
call-places look call whole =
    subst (λ (c : Call). map (λ f. f.place) (found_of c) ≡ places_from 320 (map (λ f. f.shift) (frames_of_call c))) (call-whole call whole)
    (history-places look call.who (periods_of_call call) (history-whole call whole))

-- **Each made frame is sent.**
pub call-each : LooksBack → (call : Call) → IsWhole call → length (down_frames call (frames_of_call call)) ≡ length (frames_of_call call)
call-each look call whole =
    subst (λ (c : Call). length (down_frames c (frames_of_call c)) ≡ length (frames_of_call c)) (call-whole call whole)
    (history-each look call.who (periods_of_call call) (history-whole call whole))

-- where bits are handed over, the octets of its Down line have the line's bits
pub call-bits : LooksBack → (call : Call) → IsWhole call → All (λ span. All (λ item. AreBits item) span.items) call.spans →
    bits_of (octets_of (down call)) ≡ down call
call-bits look call whole items =
    let is : down_line call.who (periods_of_call call) ≡ down call =
    subst (λ (c : Call). down_line call.who (periods_of_call call) ≡ down c) (call-whole call whole)
    (down-whole look call.who (periods_of_call call) (history-whole call whole)) in
    subst (λ bits. bits_of (octets_of bits) ≡ bits) is (line-again call.who (periods_of_call call) (hands (λ item. AreBits item) call whole items))
