-- For crates above: each frame on the Down line, and so the line, is that of the call as a whole (`frame-placed`,
-- `down-whole`).
use Rattle.std.proofs.Common.{◌≡◌, refl, sym, ap, ◌∙◌, ℕ, ◌*◌, ◌≤◌, Bool, true, false, ◌&&◌, if◌then◌else◌, nat_le, nat_lt, Option, Some, None, List, [], ◌∷◌}
use Rattle.std.proofs.Common.{◌++◌, length, map, take, reverse, replicate, arith, append_assoc, length-append}
use Rattle.std.specs.Prelude.{◌==◌, not, is_none, unwrap_or}
use Rattle.std.specs.List.{flat_map, zip, list_any}
use Rattle.std.proofs.lemmas.Bool.{cond-true, cond-false, and_parts, and_right, eqb-true}
use Rattle.std.proofs.lemmas.List.{append-nil, length-map, length-reverse}
use Rattle.std.proofs.lemmas.List.Concat.{flat_map-append}
use Rattle.trau_frame.specs.declared.frames.DownFrame.{DownFrame}
use Rattle.trau_frame.specs.declared.frames.DownFrame.TheVariants as frames
use Rattle.trau_frame.specs.DownFrame.{down_bits}
use Rattle.tx_dtx.specs.Sent.{sent_of}
use Rattle.down_framer.specs.Made.{frame_on_line}
use Rattle.down_framer.specs.ByNumber.{when, numbered_of}
use Rattle.down_framer.proofs.Store.{AreInTurn, AreInTurn-made_frames}
use Rattle.call_leg.specs.Who.{Who}
use Rattle.call_leg.specs.Periods.{CallPeriod, bridges_begun, quiet_now, handed_in}
use Rattle.call_leg.specs.Down as leg
use Rattle.call_leg.specs.Down.{down_periods, frames_of}
use Rattle.call_leg.proofs.Lines.{line-is_made}
use Rattle.call_leg.proofs.Downlink.Stretch.{frame-coded, frame-carries, frame-quiet}
use Rattle.call_spec.specs.Call.{is_quiet_at, item_at}
use Rattle.call_spec.specs.Down.{is_coded, coded_goes_on, uncoded, stretch_frames, down_frames, bits_on_line, line, frames_of_call, down}
use Rattle.call_spec.specs.History.{IsCallHistory, call_of_history}
use Rattle.call_spec.proofs.Stretched.{reverse-more, before, stretched-more}
use Rattle.call_spec.proofs.Reading.{length-settings_of, LooksBack}
use Rattle.call_spec.proofs.Bridges.Spans.{handed_in-period}
use Rattle.call_spec.proofs.Bridges.Starts.{starts-between}
use Rattle.call_spec.proofs.Frames.{made-read}
use Rattle.call_spec.proofs.Bridges.Loads.{IsPlaced, ArePlaced, placed}
use Rattle.call_spec.proofs.Sending.{zip-more, code, codes, frame_after, adds-frame}
use Rattle.call_spec.proofs.PlacedFrames.{coded-placed, code-placed, codes-placed}

and_both : (a b : Bool) → (a && true && not (not b)) ≡ (a && b)
and_both true true = refl
and_both true false = refl
and_both false b = refl

-- a coded stretch goes on where its frames have one epoch
goes_on-placed : LooksBack → (who : Who) (ts : List CallPeriod) (f g : leg.CallFrame) → IsCallHistory ts → IsPlaced ts f → IsPlaced ts g →
    when g.start ≤ when f.start → is_coded (call_of_history who ts) (numbered_of f) ≡ true →
    coded_goes_on (call_of_history who ts) (numbered_of g) (numbered_of f) ≡ (leg.is_coded who.number g && g.epoch == f.epoch)
goes_on-placed look who ts f g h p q l e =
    let call = call_of_history who ts in
    let late = p.at in
    let soon = q.at in
    let none : list_any (λ span. nat_lt (when g.start) span.from && nat_le span.from (when f.start)) call.spans ≡ not (g.epoch == f.epoch) =
    ap (λ k. list_any (λ span. nat_lt k span.from && nat_le span.from (when f.start)) call.spans) q.at ∙
    ap (λ k. list_any (λ span. nat_lt (length q.past) span.from && nat_le span.from k) call.spans) p.at ∙
    starts-between ts q.period p.period q.past p.past q.is_period p.is_period (omega arith) ∙
    ap (λ n. not (n == bridges_begun (p.period ∷ p.past))) (sym q.epoch) ∙ ap (λ n. not (g.epoch == n)) (sym p.epoch) in
    ap (λ b. is_coded call (numbered_of g) && is_coded call (numbered_of f) && not b) none ∙
    ap (λ b. is_coded call (numbered_of g) && b && not (not (g.epoch == f.epoch))) e ∙
    and_both (is_coded call (numbered_of g)) (g.epoch == f.epoch) ∙ ap (λ b. b && g.epoch == f.epoch) (coded-placed look who ts g h q)

-- so the frames of the stretch before one are the same
before-placed : LooksBack → (who : Who) (ts : List CallPeriod) (f : leg.CallFrame) (fs : List leg.CallFrame) → IsCallHistory ts → ArePlaced ts (f ∷ fs) →
    AreInTurn (f ∷ fs) → is_coded (call_of_history who ts) (numbered_of f) ≡ true →
    before (coded_goes_on (call_of_history who ts)) (numbered_of f) (map numbered_of fs) ≡ map numbered_of (leg.coded_stretch who.number f.epoch fs)
before-placed look who ts f [] h p t e = refl
before-placed look who ts f (g ∷ fs) h p t e =
    ap (λ b. if b then numbered_of g ∷ before (coded_goes_on (call_of_history who ts)) (numbered_of g) (map numbered_of fs) else [])
    (goes_on-placed look who ts f g h p.0 p.1.0 (omega (arith, t.0)) e) ∙
    by (leg.is_coded who.number g && g.epoch == f.epoch) refl (before-placed look who ts g fs h p.1 t.2)
  where
    by : (b : Bool) → (leg.is_coded who.number g && g.epoch == f.epoch) ≡ b →
        (is_coded (call_of_history who ts) (numbered_of g) ≡ true → before (coded_goes_on (call_of_history who ts)) (numbered_of g) (map numbered_of fs)
        ≡ map numbered_of (leg.coded_stretch who.number g.epoch fs)) →
        (if b then numbered_of g ∷ before (coded_goes_on (call_of_history who ts)) (numbered_of g) (map numbered_of fs) else [])
        ≡ map numbered_of (if b then g ∷ leg.coded_stretch who.number f.epoch fs else [])
    by true q rest =
        let two = and_parts (leg.is_coded who.number g) (g.epoch == f.epoch) q in
        ap (λ z. numbered_of g ∷ z)
        (rest (coded-placed look who ts g h p.1.0 ∙ two.0) ∙ ap (λ n. map numbered_of (leg.coded_stretch who.number n fs)) (eqb-true g.epoch f.epoch two.1))
    by false q rest = refl

-- each frame of a stretch is placed
stretch-placed : (number epoch : ℕ) (ts : List CallPeriod) (fs : List leg.CallFrame) → ArePlaced ts fs → ArePlaced ts (leg.coded_stretch number epoch fs)
stretch-placed number epoch ts [] p = tt
stretch-placed number epoch ts (f ∷ fs) p = by (leg.is_coded number f && f.epoch == epoch) (stretch-placed number epoch ts fs p.1)
  where
    by : (b : Bool) → ArePlaced ts (leg.coded_stretch number epoch fs) → ArePlaced ts (if b then f ∷ leg.coded_stretch number epoch fs else [])
    by true q = (p.0, q)
    by false q = tt

-- ---- the newest frame

-- **A made frame is what the call as a whole makes of it.**
pub frame-placed : LooksBack → (who : Who) (ts : List CallPeriod) (f : leg.CallFrame) (fs : List leg.CallFrame) → IsCallHistory ts → ArePlaced ts (f ∷ fs) →
    AreInTurn (f ∷ fs) →
    frame_after (call_of_history who ts) (numbered_of f) (before (coded_goes_on (call_of_history who ts)) (numbered_of f) (map numbered_of fs))
    ≡ leg.frame_now who (f ∷ fs)
frame-placed look who ts f fs h p t = by f.carries (quiet_now who.number f.load) refl refl
  where
    not_coded : is_coded (call_of_history who ts) (numbered_of f) ≡ false →
        frame_after (call_of_history who ts) (numbered_of f) (before (coded_goes_on (call_of_history who ts)) (numbered_of f) (map numbered_of fs))
        ≡ uncoded (call_of_history who ts) (numbered_of f)
    not_coded e = cond-false (is_coded (call_of_history who ts) (numbered_of f)) _ (uncoded (call_of_history who ts) (numbered_of f)) e

    uncoded-by : (o : Option ℕ) → f.carries ≡ o →
        uncoded (call_of_history who ts) (numbered_of f)
        ≡ (elim o as (λ x. DownFrame) [ Some h ↦ frames.Speech (unwrap_or (item_at (call_of_history who ts).spans h) []) true | None ↦ frames.Idle ])
    uncoded-by o e =
        ap (λ (o : Option ℕ).
        elim o as (λ x. DownFrame) [ Some h ↦ frames.Speech (unwrap_or (item_at (call_of_history who ts).spans h) []) true | None ↦ frames.Idle ]) e

    by : (o : Option ℕ) (b : Bool) → f.carries ≡ o → quiet_now who.number f.load ≡ b →
        frame_after (call_of_history who ts) (numbered_of f) (before (coded_goes_on (call_of_history who ts)) (numbered_of f) (map numbered_of fs))
        ≡ leg.frame_now who (f ∷ fs)
    by (Some i) b e q =
        let place : IsPlaced ts f = p.0 in
        not_coded (ap (λ o. is_none o && not (is_quiet_at (call_of_history who ts) (when f.start))) e) ∙ uncoded-by (Some i) e ∙
        ap (λ d. frames.Speech d true)
        (handed_in-period ts place.period place.past i h.bridges place.is_period (place.item i e) ∙ ap (handed_in i) (sym place.load)) ∙
        sym (frame-carries who i f fs e)
    by None true e q =
        not_coded (coded-placed look who ts f h p.0 ∙ ap (λ b. is_none f.carries && not b) q ∙ and_right (is_none f.carries) false refl) ∙ uncoded-by None e
        ∙ sym (frame-quiet who f fs e q)
    by None false e q =
        let call = call_of_history who ts in
        let stretch = leg.coded_stretch who.number f.epoch fs in
        let placed = stretch-placed who.number f.epoch ts fs p.1 in
        let is : is_coded call (numbered_of f) ≡ true =
        coded-placed look who ts f h p.0 ∙ ap (λ b. is_none f.carries && not b) q ∙ ap (λ o. is_none o && true) e in
        cond-true (is_coded call (numbered_of f)) _ (uncoded call (numbered_of f)) is ∙
        ap (λ s. leg.speech (sent_of (code call (numbered_of f) s) (codes call s))) (before-placed look who ts f fs h p t is) ∙
        ap (λ c. leg.speech (sent_of c (codes call (map numbered_of stretch)))) (code-placed who ts f stretch h p.0 placed) ∙
        ap (λ cs. leg.speech (sent_of (leg.coded_after who.law f stretch) cs)) (codes-placed who ts stretch h placed) ∙ sym (frame-coded who f fs e q)

-- ---- the line

-- the downlink of some made frames, as the call as a whole has it
record Lines (who : Who) (ts : List CallPeriod) (fs : List leg.CallFrame) : Type 0 where
  count : length (down_frames (call_of_history who ts) (reverse (map numbered_of fs))) ≡ length fs
  is : line (call_of_history who ts) (reverse (map numbered_of fs)) ≡ leg.down_made who fs

-- **It is the same.**
lines : LooksBack → (who : Who) (ts : List CallPeriod) (fs : List leg.CallFrame) → IsCallHistory ts → ArePlaced ts fs → AreInTurn fs → Lines who ts fs
lines look who ts [] h p t = record { count = refl; is = append-nil (replicate 320 1) }
lines look who ts (f ∷ fs) h p t =
    let call = call_of_history who ts in
    let g = numbered_of f in
    let gs = map numbered_of fs in
    let frames = down_frames call (reverse gs) in
    let l = lines look who ts fs h p.1 t.2 in
    let count = l.count in
    let n = length-reverse gs in
    let m = length-map fs numbered_of in
    let grown : down_frames call (reverse (g ∷ gs)) ≡ frames ++ leg.frame_now who (f ∷ fs) ∷ [] =
    stretched-more (coded_goes_on call) (stretch_frames call) (λ f s. frame_after call f s ∷ []) (adds-frame call) g gs ∙
    ap (λ d. frames ++ d ∷ []) (frame-placed look who ts f fs h p t) in
    record {
      count = ap length grown ∙ length-append frames (leg.frame_now who (f ∷ fs) ∷ []) ∙ omega arith;
      is = ap (λ ds. replicate 320 1 ++ flat_map bits_on_line (zip (reverse (g ∷ gs)) ds)) grown ∙
          ap (λ fs'. replicate 320 1 ++ flat_map bits_on_line (zip fs' (frames ++ leg.frame_now who (f ∷ fs) ∷ []))) (reverse-more g gs) ∙
          ap (λ xs. replicate 320 1 ++ flat_map bits_on_line xs) (zip-more (reverse gs) frames g (leg.frame_now who (f ∷ fs)) (omega arith)) ∙
          ap (λ z. replicate 320 1 ++ z) (flat_map-append bits_on_line (zip (reverse gs) frames) ((g, leg.frame_now who (f ∷ fs)) ∷ []) ∙
          ap (λ z. flat_map bits_on_line (zip (reverse gs) frames) ++ z) (append-nil (frame_on_line f.shift (down_bits (leg.frame_now who (f ∷ fs)))))) ∙
          sym (append_assoc (replicate 320 1) (flat_map bits_on_line (zip (reverse gs) frames))
          (frame_on_line f.shift (down_bits (leg.frame_now who (f ∷ fs))))) ∙
          ap (λ z. z ++ frame_on_line f.shift (down_bits (leg.frame_now who (f ∷ fs)))) l.is;
    }

-- **The Down line is that of the call as a whole.**
pub down-whole : LooksBack → (who : Who) (ts : List CallPeriod) → IsCallHistory ts → leg.down_line who ts ≡ down (call_of_history who ts)
down-whole look who ts h =
    let l = lines look who ts (frames_of ts) h (placed ts) (AreInTurn-made_frames (down_periods ts)) in
    line-is_made who ts ∙ ap (take (320 * length ts)) (sym l.is)
    ∙ ap (λ fs. take (320 * length ts) (line (call_of_history who ts) fs)) (sym (made-read who ts h)) ∙
    ap (λ n. take (320 * n) (line (call_of_history who ts) (frames_of_call (call_of_history who ts)))) (sym (length-settings_of ts))
