-- The Down line of a call: handed frames, idle frames and coded frames (GSM 06.10 and GSM 08.60; when each of them is
-- sent is this project's profile). Lists have the newest period and the newest frame first.
use Rattle.std.specs.Prelude.{ℕ, ℤ, Bool, true, not, if◌then◌else◌, ◌&&◌, ◌==◌, Some, None, is_none, is_some, List, [], ◌∷◌, ◌++◌, map, take, drop}
use Rattle.trau_alaw.specs.declared.Law.{Law}
use Rattle.trau_alaw.specs.Period.{expanded}
use Rattle.trau_params.specs.Bits260.{bits260}
use Rattle.trau_frame.specs.declared.frames.DownFrame.{DownFrame}
use Rattle.trau_frame.specs.declared.frames.DownFrame.TheVariants as down
use Rattle.trau_frame.specs.DownFrame as frames
use Rattle.fr_encoder.specs.Encoded.{encoding_of}
use Rattle.tx_dtx.specs.Stretch.{Coded, Sent}
pub use Rattle.tx_dtx.specs.Stretch.{coded_as}
use Rattle.tx_dtx.specs.Sent.{sent_of}
use Rattle.down_framer.specs.Made.{Period, MadeFrame, made_frames, downlink_of, down_of}
use Rattle.call_leg.specs.Who.{Who}
use Rattle.call_leg.specs.Uplink.{field_of}
use Rattle.call_leg.specs.Periods.{CallPeriod, sighting_after, pcm_of, quiet_now, handed_in, dtx_now, level_now}

-- a period as the downlink sees it, with all periods up to it
abbrev pub down_period : CallPeriod → List CallPeriod → Period (List CallPeriod)
down_period t past = record { field = field_of (sighting_after past t.up); starts = t.starts; bridged = is_some t.handed; load = t ∷ past }

abbrev pub down_periods : List CallPeriod → List (Period (List CallPeriod))
down_periods [] = []
down_periods (t ∷ past) = down_period t past ∷ down_periods past

-- a made frame, with all periods up to its own
abbrev pub CallFrame : Type 0
CallFrame = MadeFrame (List CallPeriod)

abbrev pub frames_of : List CallPeriod → List CallFrame
frames_of ts = made_frames (down_periods ts)

-- the frame carries no handed frame and wasn't made in a quiet period
abbrev pub is_coded : ℕ → CallFrame → Bool
is_coded call f = is_none f.carries && not (quiet_now call f.load)

-- the coded frames after the last frame that isn't one, and since the start of the latest bridge; `epoch` bridges have
-- started
abbrev pub coded_stretch : ℕ → ℕ → List CallFrame → List CallFrame
coded_stretch call epoch [] = []
coded_stretch call epoch (f ∷ fs) = if is_coded call f && f.epoch == epoch then f ∷ coded_stretch call epoch fs else []

-- the samples of a frame: its 160 octets of the Pcm line, expanded by the call's law
abbrev pub samples_of : Law → CallFrame → List ℤ
samples_of law f = expanded law (take 160 (drop f.start (pcm_of f.load)))

-- a frame, encoded from the reset state after the coded frames of its stretch
abbrev pub coded_after : Law → CallFrame → List CallFrame → Coded
coded_after law f before = coded_as (encoding_of (samples_of law f) (map (samples_of law) before)) (level_now f.load) (dtx_now f.load)

-- all coded frames of a stretch
abbrev pub coded_frames : Law → List CallFrame → List Coded
coded_frames law [] = []
coded_frames law (f ∷ before) = coded_after law f before ∷ coded_frames law before

-- the speech frame in which a coded frame is sent
abbrev pub speech : Sent → DownFrame
speech s = down.Speech (bits260 s.fields) s.sp

-- The newest frame: its handed bits with SP 1, if it carries some; else idle, if its period is quiet; else what is sent
-- for it after the coded frames of its stretch.
abbrev pub frame_now : Who → List CallFrame → DownFrame
frame_now who [] = down.Idle
frame_now who (f ∷ fs) = elim f.carries [
  | Some h ↦ down.Speech (handed_in h f.load) true
  | None ↦ let before = coded_stretch who.number f.epoch fs in
      if quiet_now who.number f.load then down.Idle else speech (sent_of (coded_after who.law f before) (coded_frames who.law before))
]

abbrev pub bits_now : Who → List CallFrame → List ℕ
bits_now who fs = frames.down_bits (frame_now who fs)

-- the downlink that is made so far
abbrev pub down_made : Who → List CallFrame → List ℕ
down_made who fs = downlink_of (bits_now who) fs

-- the 320 bits of the newest period
abbrev pub down_now : Who → List CallPeriod → List ℕ
down_now who ts = down_of (bits_now who) (down_periods ts)

-- the bits of the whole Down line, the first bit first
abbrev pub down_line : Who → List CallPeriod → List ℕ
down_line who [] = []
down_line who (t ∷ past) = down_line who past ++ down_now who (t ∷ past)
