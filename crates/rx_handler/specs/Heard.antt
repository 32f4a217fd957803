-- What the receive side hears in a period (the classes of GSM 06.31; what counts as lost is this project's profile).
use Rattle.std.specs.Prelude.{ℕ, Bool, false, Option, Some, None, List}
use Rattle.trau_params.specs.Fields.{Fields, fields_in}
use Rattle.trau_frame.specs.declared.frames.Kind.{Kind}
use Rattle.trau_frame.specs.declared.frames.Kind.TheVariants as kinds
use Rattle.trau_frame.specs.declared.frames.Class.{Class}
use Rattle.trau_frame.specs.declared.frames.Class.TheVariants as classes
use Rattle.trau_frame.specs.declared.frames.UpFrame.{UpFrame}

-- Good: good speech. Sid: a valid silence descriptor. Idle: an idle frame. Lost: all else, and whether it was an
-- unusable speech frame where a silence descriptor was due
pub data Heard : Type 0 where
  Good Sid : Fields → Heard
  Idle : Heard
  Lost : Bool → Heard

-- a speech frame by its class, its parameters and its TAF (1 where a silence descriptor is due)
abbrev pub heard_speech : Class → Fields → Bool → Heard
heard_speech classes.Good p taf = Good p
heard_speech classes.Sid p taf = Sid p
heard_speech classes.InvalidSid p taf = Lost false
heard_speech classes.Unusable p taf = Lost taf

-- a frame by its kind, its class, its TAF and its data bits
abbrev pub heard_frame : Kind → Class → Bool → List ℕ → Heard
heard_frame kinds.Speech class taf d = heard_speech class (fields_in d) taf
heard_frame kinds.Idle class taf d = Idle
heard_frame kinds.Other class taf d = Lost false

-- a period: a frame, or None for a miss and for a period without a yield
abbrev pub heard_of : Option UpFrame → Heard
heard_of None = Lost false
heard_of (Some f) = heard_frame f.kind f.class f.taf f.d
