-- The Down line of a call by the notes of its uplink half, in place of the octets of its Up line. Each rule is that of
-- the same name in Periods.antt or Down.antt. Lists have the newest period and the newest frame first.
use Rattle.std.specs.Prelude.{ℕ, ℤ, pos, Bool, true, false, not, if◌then◌else◌, ◌&&◌, ◌==◌, Option, Some, None, is_none, is_some, unwrap_or, List, [], ◌∷◌}
use Rattle.std.specs.Prelude.{◌++◌, length, map, take, drop}
use Rattle.trau_alaw.specs.declared.Law.{Law}
use Rattle.trau_alaw.specs.Period.{expanded}
use Rattle.trau_orders.specs.declared.order.DtxMode.{DtxMode}
use Rattle.trau_frame.specs.declared.frames.DownFrame.{DownFrame}
use Rattle.trau_frame.specs.declared.frames.DownFrame.TheVariants as down
use Rattle.trau_frame.specs.DownFrame as frames
use Rattle.fr_encoder.specs.Encoded.{encoding_of}
use Rattle.tx_dtx.specs.Stretch.{Coded}
use Rattle.tx_dtx.specs.Sent.{sent_of}
use Rattle.down_framer.specs.Made.{Period, MadeFrame, down_of}
use Rattle.call_leg.specs.Uplink.{is_quiet}
use Rattle.call_leg.specs.Periods.{CallPeriod, dtx_in}
use Rattle.call_leg.specs.Settings.{Settings}
use Rattle.call_leg.specs.Down.{coded_as, speech}
use Rattle.call_leg.specs.Halves.{Note, note_in}

-- A period for the downlink half: its note, its 160 octets of the Pcm line, the level and the DTX mode in force,
-- whether a bridge starts at it, and if it lies in a bridge, the 260 bits that are handed over in it.
pub record NotedPeriod : Type 0 where
  pub note : Note
  pub pcm : List ℕ
  pub level : ℤ
  pub mode : DtxMode
  pub starts : Bool
  pub handed : Option (List ℕ)

-- the next period, with these settings
abbrev pub noted_with : Settings → Note → List ℕ → Option (List ℕ) → NotedPeriod
noted_with now note pcm handed = record { note = note; pcm = pcm; level = now.level; mode = now.mode; starts = now.starts; handed = handed }

-- the periods of a call with this number, each with the note of its octets of the Up line
abbrev pub noted_periods : ℕ → List CallPeriod → List NotedPeriod
noted_periods call [] = []
noted_periods call (t ∷ past) =
    record { note = note_in call past t.up; pcm = t.pcm; level = t.level; mode = t.mode; starts = t.starts; handed = t.handed } ∷ noted_periods call past

-- ---- the periods

-- the Pcm line so far, the first octet first
abbrev pub pcm_of : List NotedPeriod → List ℕ
pcm_of [] = []
pcm_of (t ∷ past) = pcm_of past ++ t.pcm

-- the bits handed over in period h
abbrev pub handed_in : ℕ → List NotedPeriod → List ℕ
handed_in h [] = []
handed_in h (t ∷ past) = if h == length past then unwrap_or t.handed [] else handed_in h past

-- whether the newest period is quiet
abbrev pub quiet_now : List NotedPeriod → Bool
quiet_now [] = true
quiet_now (t ∷ past) = is_quiet t.note.eff

-- DTXd of the last speech frame so far; false before the first one
abbrev pub dtxd_of : List NotedPeriod → Bool
dtxd_of [] = false
dtxd_of (t ∷ past) = unwrap_or t.note.dtx (dtxd_of past)

-- whether DTX is on in the newest period
abbrev pub dtx_now : List NotedPeriod → Bool
dtx_now [] = false
dtx_now (t ∷ past) = dtx_in t.mode (dtxd_of (t ∷ past))

-- the level in force in the newest period; 256 before the first one
abbrev pub level_now : List NotedPeriod → ℤ
level_now [] = pos 256
level_now (t ∷ past) = t.level

-- a period as the downlink sees it, with all periods up to it; field 0 asks for nothing
abbrev pub down_period : NotedPeriod → List NotedPeriod → Period (List NotedPeriod)
down_period t past = record { field = Some t.note.ask; starts = t.starts; bridged = is_some t.handed; load = t ∷ past }

abbrev pub down_periods : List NotedPeriod → List (Period (List NotedPeriod))
down_periods [] = []
down_periods (t ∷ past) = down_period t past ∷ down_periods past

-- ---- the frames

-- a made frame, with all periods up to its own
abbrev pub NotedFrame : Type 0
NotedFrame = MadeFrame (List NotedPeriod)

-- the frame carries no handed frame and wasn't made in a quiet period
abbrev pub is_coded : NotedFrame → Bool
is_coded f = is_none f.carries && not (quiet_now f.load)

-- the coded frames after the last frame that isn't one, and since the start of the latest bridge; `epoch` bridges have
-- started
abbrev pub coded_stretch : ℕ → List NotedFrame → List NotedFrame
coded_stretch epoch [] = []
coded_stretch epoch (f ∷ fs) = if is_coded f && f.epoch == epoch then f ∷ coded_stretch epoch fs else []

-- the samples of a frame: its 160 octets of the Pcm line, expanded by the call's law
abbrev pub samples_of : Law → NotedFrame → List ℤ
samples_of law f = expanded law (take 160 (drop f.start (pcm_of f.load)))

-- a frame, encoded from the reset state after the coded frames of its stretch
abbrev pub coded_after : Law → NotedFrame → List NotedFrame → Coded
coded_after law f before = coded_as (encoding_of (samples_of law f) (map (samples_of law) before)) (level_now f.load) (dtx_now f.load)

-- all coded frames of a stretch
abbrev pub coded_frames : Law → List NotedFrame → List Coded
coded_frames law [] = []
coded_frames law (f ∷ before) = coded_after law f before ∷ coded_frames law before

-- The newest frame: its handed bits with SP 1, if it carries some; else idle, if its period is quiet; else what is sent
-- for it after the coded frames of its stretch.
abbrev pub frame_now : Law → List NotedFrame → DownFrame
frame_now law [] = down.Idle
frame_now law (f ∷ fs) = elim f.carries [
  | Some h ↦ down.Speech (handed_in h f.load) true
  | None ↦ let before = coded_stretch f.epoch fs in if quiet_now f.load then down.Idle else speech
      (sent_of (coded_after law f before) (coded_frames law before))
]

abbrev pub bits_now : Law → List NotedFrame → List ℕ
bits_now law fs = frames.down_bits (frame_now law fs)

-- the 320 bits of the newest period
abbrev pub down_now : Law → List NotedPeriod → List ℕ
down_now law ts = down_of (bits_now law) (down_periods ts)
