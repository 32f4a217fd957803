-- What each call of a framer does in the history of its periods.
use Rattle.std.proofs.Common.{◌≡◌, refl, sym, ap, ◌∙◌, subst, inl, inr, ℕ, ◌+◌, ◌-◌, ◌*◌, ℤ, ◌≤◌, ◌<◌, zero, suc, nat_le, List, [], ◌∷◌, ◌++◌, length, take}
use Rattle.std.proofs.Common.{arith, length-append, length-drop}
use Rattle.std.proofs.lemmas.List.{length-replicate}
use Rattle.std.proofs.lemmas.Bool.{le-leb, lt-leb, cases_lt}
use Rattle.down_framer.specs.Made.{Period, octets_to_next, next_start, frame_on_line, next_frame, grown, shift_due, made_frames, downlink_of, down_of}
use Rattle.down_framer.specs.Memory.{FramerMemory, home_memory}
use Rattle.down_framer.specs.Step.{after_put, after_frame, after_take}
use Rattle.down_framer.specs.Stands.{Holds, PcmPeriod, PcmFrame, pcm_of, tries, StandsBetween, StandsWithin}
use Rattle.down_framer.proofs.Timing.{AreMade-made_frames, IsShift-shift_due, octets_of-bounds}
use Rattle.down_framer.proofs.Due.{none_made, one_made}
use Rattle.down_framer.proofs.Store.{length-frame_on_line}
use Rattle.down_framer.proofs.Calls.{put-holds, frame-holds, take-holds}

-- ---- once none is ready, all frames of the period are made

-- a third try makes no frame
more_tries : {A : Type 0} (n : ℕ) (p : Period A) (past : List (Period A)) → tries (suc (suc n)) p past ≡ made_frames (p ∷ past)
more_tries zero p past = refl
more_tries (suc n) p past =
    let a = AreMade-made_frames (p ∷ past) in
    let low = a.low in
    ap (grown p past) (more_tries n p past) ∙ none_made p past (made_frames (p ∷ past)) (omega arith)

-- after tries of which none is left all frames of the period are made
pub all_made : {A : Type 0} (n : ℕ) (p : Period A) (past : List (Period A)) → 160 * length past < next_start (tries n p past) →
    tries n p past ≡ made_frames (p ∷ past)
all_made zero p past l = sym (ap (grown p past) (none_made p past (made_frames past) l) ∙ none_made p past (made_frames past) l)
all_made (suc zero) p past l = sym (none_made p past (grown p past (made_frames past)) l)
all_made (suc (suc n)) p past l = more_tries n p past

-- ---- within a period

-- so many octets are held within a period
length-held : (bits : List PcmFrame → List ℕ) (p : PcmPeriod) (past : List PcmPeriod) (fs : List PcmFrame) (s : FramerMemory) → StandsWithin bits p past fs s →
    length s.held ≡ 160 * length past + 160 - next_start fs
length-held bits p past fs s h = ap length h.places.held ∙ length-drop (next_start fs) (pcm_of (p ∷ past)) ∙ ap (λ n. n - next_start fs) h.pcm

-- a frame that is made is one try more
one_more_try : (p : PcmPeriod) (past : List PcmPeriod) (fs : List PcmFrame) → next_start fs ≤ 160 * length past →
    (n : ℕ) × (fs ≡ tries n p past) → (n : ℕ) × (next_frame p past fs ∷ fs ≡ tries n p past)
one_more_try p past fs l t = (suc t.0, sym (one_made p past fs l) ∙ ap (grown p past) t.1)

-- a frame is made
pub frame-stands : (bits : List PcmFrame → List ℕ) (p : PcmPeriod) (past : List PcmPeriod) (fs : List PcmFrame) (s : FramerMemory) (f : List ℕ) (shift : ℤ) →
    160 ≤ length s.held → length f ≡ 320 → shift ≡ shift_due (p ∷ past) fs → f ≡ bits (next_frame p past fs ∷ fs) →
    StandsWithin bits p past fs s → StandsWithin bits p past (next_frame p past fs ∷ fs) (after_frame s f shift)
frame-stands bits p past fs s f shift ready l es ef h =
    let held = length-held bits p past fs s h in
    let line = h.line in
    let ahead = h.ahead in
    let due = shift_due (p ∷ past) fs in
    let b = octets_of-bounds due (IsShift-shift_due (p ∷ past) fs) in
    let lf : length (bits (next_frame p past fs ∷ fs)) ≡ 320 = sym (ap length ef) ∙ l in
    let more : length (frame_on_line due (bits (next_frame p past fs ∷ fs))) ≡ 2 * octets_to_next due =
    length-frame_on_line due (bits (next_frame p past fs ∷ fs)) (IsShift-shift_due (p ∷ past) fs) lf in
    let place : Holds (pcm_of (p ∷ past)) (downlink_of bits fs ++ frame_on_line shift f) (320 * length past) (next_start fs + octets_to_next shift)
    (after_frame s f shift) =
    frame-holds s f shift (pcm_of (p ∷ past)) (downlink_of bits fs) (320 * length past) (next_start fs) ready (omega arith) h.places in
    let place_due : Holds (pcm_of (p ∷ past)) (downlink_of bits fs ++ frame_on_line due f) (320 * length past) (next_start fs + octets_to_next due)
    (after_frame s f shift) =
    subst (λ v. Holds (pcm_of (p ∷ past)) (downlink_of bits fs ++ frame_on_line v f) (320 * length past) (next_start fs + octets_to_next v)
    (after_frame s f shift)) es place in
    record {
      pcm = h.pcm;
      tried = one_more_try p past fs (omega arith) h.tried;
      ahead = omega arith;
      line = length-append (downlink_of bits fs) (frame_on_line due (bits (next_frame p past fs ∷ fs))) ∙ omega arith;
      places =
          subst (λ g. Holds (pcm_of (p ∷ past)) (downlink_of bits fs ++ frame_on_line due g) (320 * length past) (next_start fs + octets_to_next due)
          (after_frame s f shift)) ef place_due;
    }

-- ---- from period to period

-- a period is put
pub put-stands : (bits : List PcmFrame → List ℕ) (past : List PcmPeriod) (p : PcmPeriod) (s : FramerMemory) (octets : List ℕ) → length octets ≡ 160 →
    p.load ≡ octets →
    StandsBetween bits past s → StandsWithin bits p past (made_frames past) (after_put s octets)
put-stands bits past p s octets l e h =
    let n = length-append (pcm_of past) p.load in
    let m : length p.load ≡ 160 = ap length e ∙ l in
    let before = h.pcm in
    record {
      pcm = n ∙ omega arith;
      tried = (0, refl);
      ahead = h.ahead;
      line = h.line;
      places =
          subst (λ o. Holds (pcm_of past ++ o) (downlink_of bits (made_frames past)) (320 * length past) (next_start (made_frames past)) (after_put s octets))
          (sym e)
          (put-holds s octets (pcm_of past) (downlink_of bits (made_frames past)) (320 * length past) (next_start (made_frames past)) l h.places);
    }

-- none is left to be made
all_made_now : (bits : List PcmFrame → List ℕ) (p : PcmPeriod) (past : List PcmPeriod) (fs : List PcmFrame) (s : FramerMemory) → length s.held < 160 →
    StandsWithin bits p past fs s →
    fs ≡ made_frames (p ∷ past)
all_made_now bits p past fs s short h =
    let l = length-held bits p past fs s h in
    let late : 160 * length past < next_start fs = omega arith in
    let t = h.tried in
    t.1 ∙ all_made t.0 p past (subst (λ gs. 160 * length past < next_start gs) t.1 late)

-- a period is out
pub take-stands : (bits : List PcmFrame → List ℕ) (p : PcmPeriod) (past : List PcmPeriod) (fs : List PcmFrame) (s : FramerMemory) → length s.held < 160 →
    StandsWithin bits p past fs s →
    StandsBetween bits (p ∷ past) (after_take s) × (take 320 s.stored ≡ down_of bits (p ∷ past))
take-stands bits p past fs s short h =
    let all = all_made_now bits p past fs s short h in
    let now : StandsWithin bits p past (made_frames (p ∷ past)) s = subst (λ gs. StandsWithin bits p past gs s) all h in
    let a = AreMade-made_frames (p ∷ past) in
    let pcm = now.pcm in
    let out : 320 * length past + 320 ≡ 320 * length (p ∷ past) = omega arith in (
      record {
        pcm = pcm ∙ omega arith;
        ahead = a.low;
        line = now.line;
        places = subst (λ n. Holds (pcm_of (p ∷ past)) (downlink_of bits (made_frames (p ∷ past))) n (next_start (made_frames (p ∷ past))) (after_take s)) out
            (take-holds s (pcm_of (p ∷ past)) (downlink_of bits (made_frames (p ∷ past))) (320 * length past) (next_start (made_frames (p ∷ past))) now.places);
      },
      ap (take 320) now.places.stored,
    )

-- before the first period
pub new-stands : (bits : List PcmFrame → List ℕ) → StandsBetween bits [] home_memory
new-stands bits = record {
  pcm = refl;
  ahead = omega arith;
  line = length-replicate {A = ℕ} 320 1;
  places = record { held = refl; to_skip = refl; stored = refl };
}
