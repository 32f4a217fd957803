-- How many frames are made, where they start, and how long the downlink is, after any periods of a call.
use Rattle.std.proofs.Common.{◌≡◌, refl, ap, ◌∙◌, sym, subst, ℕ, ◌+◌, ◌*◌, ◌≤◌, ◌<◌, zero, suc, Option, List, [], ◌∷◌, length, map, All, arith, inl, inr}
use Rattle.std.proofs.lemmas.Bool.{cases_lt}
use Rattle.std.proofs.lemmas.List.Elements.{All-head, All-tail, All-map, All-weaker}
use Rattle.trau_frame.proofs.Again.{length-down_bits}
use Rattle.down_framer.specs.Made.{next_start}
use Rattle.down_framer.specs.Bridges.{IsHistory}
use Rattle.down_framer.specs.ByNumber.{Bridge, NumberedFrame, when, numbered_frames, numbered_of, numbered_start, numbered_next, AreInTime}
use Rattle.down_framer.proofs.FrameLaws.{in_time}
use Rattle.down_framer.proofs.Numbers.{made-numbered}
use Rattle.down_framer.proofs.Store.{length-line_of, AreInTurn-made_frames}
use Rattle.call_leg.specs.Who.{Who}
use Rattle.call_leg.specs.Periods.{CallPeriod}
use Rattle.call_leg.specs.Down.{CallFrame, down_periods, frames_of, frame_now, bits_now, down_made}
use Rattle.call_leg.specs.Numbered.{first_frames, frame_start}
use Rattle.call_leg.proofs.Downlink.Enter.{length-down_periods}

-- ---- the made frames, and the next one

pub frames-in_time : (ts : List CallPeriod) → AreInTime (length ts) (frames_of ts)
frames-in_time ts = subst (λ k. AreInTime k (frames_of ts)) (length-down_periods ts) (in_time (down_periods ts))

pub next-ahead : (ts : List CallPeriod) → 160 * length ts < next_start (frames_of ts) + 160
next-ahead ts = let t = frames-in_time ts in t.next

pub all-come : (ts : List CallPeriod) → All (λ f. f.start + 160 ≤ 160 * length ts) (frames_of ts)
all-come ts =
    let t = frames-in_time ts in
    All-weaker (λ (f : CallFrame). (f.period ≡ when f.start) × (f.start + 160 ≤ 160 * length ts)) (λ (f : CallFrame). f.start + 160 ≤ 160 * length ts)
    (λ f x. x.1) (frames_of ts) t.made

pub length-made : (who : Who) (ts : List CallPeriod) → length (down_made who (frames_of ts)) ≡ 320 + 2 * next_start (frames_of ts)
length-made who ts = length-line_of (bits_now who) (λ fs. length-down_bits (frame_now who fs)) (frames_of ts) (AreInTurn-made_frames (down_periods ts))

-- ---- by number

pub frames-numbered : (ts : List CallPeriod) → IsHistory (down_periods ts) → map numbered_of (frames_of ts) ≡ first_frames ts (length (frames_of ts))
frames-numbered ts h = made-numbered (down_periods ts) h

-- the start of the next frame is that of the frame with this number
start-numbered : (fs : List CallFrame) → numbered_start (map numbered_of fs) ≡ next_start fs
start-numbered [] = refl
start-numbered (f ∷ fs) = refl

pub start-next : (ts : List CallPeriod) → IsHistory (down_periods ts) → frame_start ts (length (frames_of ts)) ≡ next_start (frames_of ts)
start-next ts h = ap numbered_start (sym (frames-numbered ts h)) ∙ start-numbered (frames_of ts)

-- what holds of the starts of the first n frames holds of each start before
each-start : (P : ℕ → Type 0) (bridges : List Bridge) (fields : List (Option ℕ)) (n j : ℕ) → j < n → All (λ (f : NumberedFrame). P f.start)
    (numbered_frames bridges fields n) →
    P (numbered_start (numbered_frames bridges fields j))
each-start P bridges fields zero j l h = absurd (omega arith)
each-start P bridges fields (suc n) j l h =
    let before = numbered_frames bridges fields n in
    elim (cases_lt j n) [
      | inl earlier ↦ each-start P bridges fields n j earlier (All-tail (λ (f : NumberedFrame). P f.start) (numbered_next bridges fields before) before h)
      | inr late ↦
          let e : n ≡ j = omega arith in
          subst (λ k. P (numbered_start (numbered_frames bridges fields k))) e
          (All-head (λ (f : NumberedFrame). P f.start) (numbered_next bridges fields before)
          before h)
    ]

pub start-come : (ts : List CallPeriod) (j : ℕ) → IsHistory (down_periods ts) → j < length (frames_of ts) → frame_start ts j + 160 ≤ 160 * length ts
start-come ts j h l =
    let P : NumberedFrame → Type 0 = λ f. f.start + 160 ≤ 160 * length ts in
    let all : All P (first_frames ts (length (frames_of ts))) = subst (All P) (frames-numbered ts h) (All-map P numbered_of (frames_of ts) (all-come ts)) in
    each-start (λ s. s + 160 ≤ 160 * length ts) _ _ (length (frames_of ts)) j l all
