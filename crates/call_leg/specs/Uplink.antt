-- What each period of a call's uplink brings (the frames of GSM 08.60; what they ask for is this project's profile).
use Rattle.std.specs.Prelude.{ℕ, Bool, false, Option, Some, None, unwrap_or}
use Rattle.trau_frame.specs.declared.frames.Kind.{Kind}
use Rattle.trau_frame.specs.declared.frames.Kind.TheVariants as kinds
use Rattle.trau_frame.specs.UpFrame.{UpWords, words_in, up_words_of}
use Rattle.frame_sync.specs.declared.yields.Yield.{Yield}
use Rattle.frame_sync.specs.declared.yields.Yield.TheVariants as yields
use Rattle.rx_handler.specs.Heard.{Heard, Lost, heard_frame}
pub use Rattle.rx_handler.specs.Origin.{is_quiet, handed_fields}
use Rattle.call_leg.specs.declared.found.Found.{Found}
use Rattle.call_leg.specs.declared.found.Found.TheVariants as found

-- what a period brings: no yield of the search, a miss, or a frame
pub data Sighting : Type 0 where
  Nothing Missed : Sighting
  Framed : UpWords → Sighting

abbrev pub sighting_in : Option Yield → Sighting
sighting_in None = Nothing
sighting_in (Some (yields.Miss p)) = Missed
sighting_in (Some (yields.Frame p bits)) = Framed (words_in bits)

-- the same for what the code finds
abbrev pub sighting_of : Found → Sighting
sighting_of found.Nothing = Nothing
sighting_of found.Missed = Missed
sighting_of (found.Frame f) = Framed (up_words_of f)

-- what the receive side hears
abbrev pub heard_as : Sighting → Heard
heard_as Nothing = Lost false
heard_as Missed = Lost false
heard_as (Framed w) = heard_frame w.kind w.class w.taf w.d

-- the alignment field of a frame of speech or idle
abbrev pub field_by : Kind → ℕ → Option ℕ
field_by kinds.Speech field = Some field
field_by kinds.Idle field = Some field
field_by kinds.Other field = None

abbrev pub field_of : Sighting → Option ℕ
field_of Nothing = None
field_of Missed = None
field_of (Framed w) = field_by w.kind w.align

-- DTXd of a speech frame
abbrev pub dtx_by : Kind → Bool → Option Bool
dtx_by kinds.Speech dtxd = Some dtxd
dtx_by kinds.Idle dtxd = None
dtx_by kinds.Other dtxd = None

abbrev pub dtx_told : Sighting → Option Bool
dtx_told Nothing = None
dtx_told Missed = None
dtx_told (Framed w) = dtx_by w.kind w.dtxd

-- DTXd of the last speech frame, after one more period
abbrev pub dtxd_after : Sighting → Bool → Bool
dtxd_after s before = unwrap_or (dtx_told s) before
