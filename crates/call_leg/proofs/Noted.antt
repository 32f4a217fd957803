-- The Down line of a call is the one that its notes give.
use Rattle.std.proofs.Common.{◌≡◌, refl, ap, ◌∙◌, ℕ, ◌++◌, suc, ℤ, Bool, true, false, not, ◌&&◌, if◌then◌else◌, Option, Some, None, unwrap_or, List, [], ◌∷◌}
use Rattle.std.proofs.Common.{length, map, take, drop}
use Rattle.std.specs.Prelude.{◌==◌, is_none}
use Rattle.trau_alaw.specs.declared.Law.{Law}
use Rattle.trau_alaw.specs.Period.{expanded}
use Rattle.trau_frame.specs.declared.frames.DownFrame.{DownFrame}
use Rattle.trau_frame.specs.declared.frames.DownFrame.TheVariants as down
use Rattle.trau_frame.specs.DownFrame as frames
use Rattle.fr_encoder.specs.Encoded.{encoding_of}
use Rattle.tx_dtx.specs.Stretch.{Coded}
use Rattle.tx_dtx.specs.Sent.{sent_of}
use Rattle.rx_handler.specs.Past.{effective_of}
use Rattle.down_framer.specs.Made.{Period, down_of}
use Rattle.call_leg.specs.Who.{Who}
use Rattle.call_leg.specs.Uplink.{dtxd_after}
use Rattle.call_leg.specs.Periods.{CallPeriod, sighting_after, pcm_of, handed_in, quiet_now, dtxd_of, dtx_in, dtx_now, level_now}
use Rattle.call_leg.specs.Down.{CallFrame, down_period, down_periods, is_coded, coded_stretch, samples_of, coded_as, coded_after, coded_frames, speech}
use Rattle.call_leg.specs.Down.{frame_now, bits_now, down_now}
use Rattle.call_leg.specs.Noted.{NotedPeriod, NotedFrame, noted_periods}
use Rattle.call_leg.specs.Noted as by_notes
use Rattle.call_leg.proofs.Downlink.Reloaded.{reseen, reloaded, down_of-reloaded}

-- ---- what a frame knows of its period

length-noted : (call : ℕ) (ts : List CallPeriod) → length (noted_periods call ts) ≡ length ts
length-noted call [] = refl
length-noted call (t ∷ past) = ap suc (length-noted call past)

pcm-noted : (call : ℕ) (ts : List CallPeriod) → by_notes.pcm_of (noted_periods call ts) ≡ pcm_of ts
pcm-noted call [] = refl
pcm-noted call (t ∷ past) = ap (λ (xs : List ℕ). xs ++ t.pcm) (pcm-noted call past)

handed-noted : (call h : ℕ) (ts : List CallPeriod) → by_notes.handed_in h (noted_periods call ts) ≡ handed_in h ts
handed-noted call h [] = refl
handed-noted call h (t ∷ past) =
    ap (λ (n : ℕ). if h == n then unwrap_or t.handed [] else by_notes.handed_in h (noted_periods call past)) (length-noted call past)
    ∙ ap (λ (xs : List ℕ). if h == length past then unwrap_or t.handed [] else xs) (handed-noted call h past)

quiet-noted : (call : ℕ) (ts : List CallPeriod) → by_notes.quiet_now (noted_periods call ts) ≡ quiet_now call ts
unfolding effective_of
quiet-noted call [] = refl
quiet-noted call (t ∷ past) = refl

dtxd-noted : (call : ℕ) (ts : List CallPeriod) → by_notes.dtxd_of (noted_periods call ts) ≡ dtxd_of ts
dtxd-noted call [] = refl
dtxd-noted call (t ∷ past) = ap (dtxd_after (sighting_after past t.up)) (dtxd-noted call past)

dtx-noted : (call : ℕ) (ts : List CallPeriod) → by_notes.dtx_now (noted_periods call ts) ≡ dtx_now ts
dtx-noted call [] = refl
dtx-noted call (t ∷ past) = ap (λ (asked : Bool). dtx_in t.mode asked) (dtxd-noted call (t ∷ past))

level-noted : (call : ℕ) (ts : List CallPeriod) → by_notes.level_now (noted_periods call ts) ≡ level_now ts
level-noted call [] = refl
level-noted call (t ∷ past) = refl

-- ---- the frames

abbrev with_notes : ℕ → CallFrame → NotedFrame
with_notes call f = reloaded (noted_periods call) f

abbrev all_with_notes : ℕ → List CallFrame → List NotedFrame
all_with_notes call fs = map (reloaded (noted_periods call)) fs

coded-noted : (call : ℕ) (f : CallFrame) → by_notes.is_coded (with_notes call f) ≡ is_coded call f
coded-noted call f = ap (λ (quiet : Bool). is_none f.carries && not quiet) (quiet-noted call f.load)

stretch-noted : (call epoch : ℕ) (fs : List CallFrame) → by_notes.coded_stretch epoch (all_with_notes call fs)
    ≡ all_with_notes call (coded_stretch call epoch fs)
stretch-noted call epoch [] = refl
stretch-noted call epoch (f ∷ fs) =
    ap (λ (c : Bool). if c && f.epoch == epoch then with_notes call f ∷ by_notes.coded_stretch epoch (all_with_notes call fs) else []) (coded-noted call f)
    ∙ ap (λ (gs : List NotedFrame). if is_coded call f && f.epoch == epoch then with_notes call f ∷ gs else []) (stretch-noted call epoch fs)
    ∙ by (is_coded call f && f.epoch == epoch)
  where
    by : (b : Bool) → (if b then with_notes call f ∷ all_with_notes call (coded_stretch call epoch fs) else [])
        ≡ all_with_notes call (if b then f ∷ coded_stretch call epoch fs else [])
    by true = refl
    by false = refl

samples-noted : (law : Law) (call : ℕ) (f : CallFrame) → by_notes.samples_of law (with_notes call f) ≡ samples_of law f
samples-noted law call f = ap (λ (xs : List ℕ). expanded law (take 160 (drop f.start xs))) (pcm-noted call f.load)

all_samples-noted : (law : Law) (call : ℕ) (fs : List CallFrame) → map (by_notes.samples_of law) (all_with_notes call fs) ≡ map (samples_of law) fs
all_samples-noted law call [] = refl
all_samples-noted law call (f ∷ fs) =
    ap (λ (x : List ℤ). x ∷ map (by_notes.samples_of law) (all_with_notes call fs)) (samples-noted law call f)
    ∙ ap (λ (xs : List (List ℤ)). samples_of law f ∷ xs) (all_samples-noted law call fs)

after-noted : (law : Law) (call : ℕ) (f : CallFrame) (before : List CallFrame) →
    by_notes.coded_after law (with_notes call f) (all_with_notes call before) ≡ coded_after law f before
after-noted law call f before =
    let level = by_notes.level_now (noted_periods call f.load) in
    let on = by_notes.dtx_now (noted_periods call f.load) in
    ap (λ (x : List ℤ). coded_as (encoding_of x (map (by_notes.samples_of law) (all_with_notes call before))) level on) (samples-noted law call f)
    ∙ ap (λ (xs : List (List ℤ)). coded_as (encoding_of (samples_of law f) xs) level on) (all_samples-noted law call before)
    ∙ ap (λ (l : ℤ). coded_as (encoding_of (samples_of law f) (map (samples_of law) before)) l on) (level-noted call f.load)
    ∙ ap (λ (d : Bool). coded_as (encoding_of (samples_of law f) (map (samples_of law) before)) (level_now f.load) d) (dtx-noted call f.load)

coded_frames-noted : (law : Law) (call : ℕ) (fs : List CallFrame) → by_notes.coded_frames law (all_with_notes call fs) ≡ coded_frames law fs
coded_frames-noted law call [] = refl
coded_frames-noted law call (f ∷ fs) =
    ap (λ (c : Coded). c ∷ by_notes.coded_frames law (all_with_notes call fs)) (after-noted law call f fs)
    ∙ ap (λ (cs : List Coded). coded_after law f fs ∷ cs) (coded_frames-noted law call fs)

frame-by : (who : Who) (f : CallFrame) (fs : List CallFrame) (o : Option ℕ) →
    (elim o as (λ x. DownFrame) [
      | Some h ↦ down.Speech (by_notes.handed_in h (noted_periods who.number f.load)) true
      | None ↦ let before = by_notes.coded_stretch f.epoch (all_with_notes who.number fs) in
          if by_notes.quiet_now (noted_periods who.number f.load) then down.Idle else speech
          (sent_of (by_notes.coded_after who.law (with_notes who.number f) before) (by_notes.coded_frames who.law before))
    ])
    ≡ (elim o as (λ x. DownFrame) [
      | Some h ↦ down.Speech (handed_in h f.load) true
      | None ↦ let before = coded_stretch who.number f.epoch fs in
          if quiet_now who.number f.load then down.Idle else speech (sent_of (coded_after who.law f before) (coded_frames who.law before))
    ])
frame-by who f fs (Some h) = ap (λ (xs : List ℕ). down.Speech xs true) (handed-noted who.number h f.load)
frame-by who f fs None =
    let old = coded_stretch who.number f.epoch fs in
    let new = by_notes.coded_stretch f.epoch (all_with_notes who.number fs) in
    let g = with_notes who.number f in
    let quiet = quiet_now who.number f.load in
    ap (λ (q : Bool). if q then down.Idle else speech (sent_of (by_notes.coded_after who.law g new) (by_notes.coded_frames who.law new)))
    (quiet-noted who.number f.load)
    ∙ ap (λ (before : List NotedFrame). if quiet then down.Idle else speech
    (sent_of (by_notes.coded_after who.law g before) (by_notes.coded_frames who.law before))) (stretch-noted who.number f.epoch fs)
    ∙ ap (λ (c : Coded). if quiet then down.Idle else speech (sent_of c (by_notes.coded_frames who.law (all_with_notes who.number old))))
    (after-noted who.law who.number f old)
    ∙ ap (λ (cs : List Coded). if quiet then down.Idle else speech (sent_of (coded_after who.law f old) cs)) (coded_frames-noted who.law who.number old)

frame-noted : (who : Who) (fs : List CallFrame) → by_notes.frame_now who.law (all_with_notes who.number fs) ≡ frame_now who fs
frame-noted who [] = refl
frame-noted who (f ∷ fs) = frame-by who f fs f.carries

-- ---- the line

periods-noted : (call : ℕ) (ts : List CallPeriod) → by_notes.down_periods (noted_periods call ts) ≡ map (reseen (noted_periods call)) (down_periods ts)
periods-noted call [] = refl
periods-noted call (t ∷ past) =
    ap (λ (ps : List (Period (List NotedPeriod))). reseen (noted_periods call) (down_period t past) ∷ ps) (periods-noted call past)

-- **The Down line of a call has of its Up line the notes alone.**
pub down-noted : (who : Who) (ts : List CallPeriod) → by_notes.down_now who.law (noted_periods who.number ts) ≡ down_now who ts
down-noted who ts =
    ap (λ (ps : List (Period (List NotedPeriod))). down_of (by_notes.bits_now who.law) ps) (periods-noted who.number ts)
    ∙ down_of-reloaded (noted_periods who.number) (bits_now who) (by_notes.bits_now who.law) (λ fs. ap frames.down_bits (frame-noted who fs))
    (down_periods ts)
