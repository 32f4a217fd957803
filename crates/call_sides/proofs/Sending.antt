-- The frames of a call by the transmit side.
use Rattle.std.proofs.Common.{◌≡◌, refl, ap, ◌∙◌, true, if◌then◌else◌, Some, None, List, [], ◌∷◌, map}
use Rattle.trau_alaw.specs.declared.Law.{Law}
use Rattle.trau_frame.specs.declared.frames.DownFrame.{DownFrame}
use Rattle.trau_frame.specs.declared.frames.DownFrame.TheVariants as down
use Rattle.fr_encoder.specs.Encoded.{encoding_of}
use Rattle.tx_dtx.specs.Sent.{sent_of}
use Rattle.tx_dtx.specs.Stretch.{coded_as}
use Rattle.fr_sides.specs.Sending.{samples_in, coded_periods, sent_now}
use Rattle.fr_sides.specs.Sending as sides
use Rattle.call_leg.specs.Who.{Who}
use Rattle.call_leg.specs.Periods.{quiet_now, handed_in, dtx_now, level_now}
use Rattle.call_leg.specs.Down.{CallFrame, samples_of, coded_stretch, coded_after, coded_frames, speech, frame_now}
use Rattle.call_sides.specs.Sent.{period_of_frame, frame_sent}

samples-same : (law : Law) (fs : List CallFrame) → map (samples_of law) fs ≡ samples_in (map (period_of_frame law) fs)
samples-same law [] = refl
samples-same law (f ∷ fs) = ap (λ xs. samples_of law f ∷ xs) (samples-same law fs)

coded-same : (law : Law) (f : CallFrame) (before : List CallFrame) → coded_after law f before
    ≡ sides.coded_after (period_of_frame law f) (map (period_of_frame law) before)
coded-same law f before = ap (λ xs. coded_as (encoding_of (samples_of law f) xs) (level_now f.load) (dtx_now f.load)) (samples-same law before)

all-same : (law : Law) (fs : List CallFrame) → coded_frames law fs ≡ coded_periods (map (period_of_frame law) fs)
all-same law [] = refl
all-same law (f ∷ before) =
    ap (λ c. c ∷ coded_frames law before) (coded-same law f before)
    ∙ ap (λ cs. sides.coded_after (period_of_frame law f) (map (period_of_frame law) before) ∷ cs) (all-same law before)

-- **What is sent of a coded frame is what the transmit side sends for its samples.**
pub sent-same : (law : Law) (f : CallFrame) (before : List CallFrame) → sent_of (coded_after law f before) (coded_frames law before)
    ≡ sent_now (period_of_frame law f) (map (period_of_frame law) before)
sent-same law f before =
    ap (λ c. sent_of c (coded_frames law before)) (coded-same law f before)
    ∙ ap (sent_of (sides.coded_after (period_of_frame law f) (map (period_of_frame law) before))) (all-same law before)

pub frame-same : (who : Who) (fs : List CallFrame) → frame_now who fs ≡ frame_sent who fs
frame-same who [] = refl
frame-same who (f ∷ fs) =
    ap (λ s. elim f.carries as (λ x. DownFrame) [
      | Some h ↦ down.Speech (handed_in h f.load) true
      | None ↦ if quiet_now who.number f.load then down.Idle else speech s
    ]) (sent-same who.law f (coded_stretch who.number f.epoch fs))
