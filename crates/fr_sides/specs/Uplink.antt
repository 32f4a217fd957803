-- The 40 octets of an uplink frame for a period's frame of 33 octets, its kind and TAF, and back (this project's
-- profile, modelled on GSM 08.60 and GSM 06.31).
use Rattle.std.specs.Prelude.{◌≡◌, ℕ, Bool, false, if◌then◌else◌, ◌==◌, Option, Some, None, option_map, List, replicate}
use Rattle.trau_bits.specs.Bits.{bits_of}
use Rattle.trau_params.specs.declared.params.Params.{Params}
use Rattle.trau_params.specs.Fields.{Fields, fields_of, fields_in}
use Rattle.trau_params.specs.Bits260.{bits260}
use Rattle.trau_frame.specs.declared.frames.Kind.{Kind}
use Rattle.trau_frame.specs.declared.frames.Kind.TheVariants.{Speech, Idle, Other}
use Rattle.trau_frame.specs.declared.frames.Class.{Class}
use Rattle.trau_frame.specs.declared.frames.Class.TheVariants.{Good, Sid, InvalidSid, Unusable}
use Rattle.trau_frame.specs.Frame.{Synced}
use Rattle.trau_frame.specs.UpFrame.{UpWords, words_in}
use Rattle.trau_frame.specs.UpBits.{bits_saying}
use Rattle.gsm_frame.specs.Packed.{Carries}
use Rattle.rx_handler.specs.Heard.{Heard, heard_frame}
use Rattle.fr_sides.specs.Octets.{CarriesIf}

-- what the receive side of a call hears in an uplink frame of these 320 bits
abbrev pub heard_in_uplink : List ℕ → Heard
heard_in_uplink bits = let w = words_in bits in heard_frame w.kind w.class w.taf w.d

-- ---- what is written

-- a speech frame, unless the kind is 3
abbrev pub up_kind : ℕ → Kind
up_kind kind = if kind == 3 then Idle else Speech

-- its class: a frame of kind 0 is good, one of kind 1 a silence descriptor; all else is unusable, and so is a period
-- without a frame
abbrev pub up_class : ℕ → Option Fields → Class
up_class kind None = Unusable
up_class kind (Some p) = if kind == 0 then Good else if kind == 1 then Sid else Unusable

-- D1 to D260: those of the frame, ones in an idle frame, zeros if there is no frame
abbrev pub data_if : Option Fields → List ℕ
data_if None = replicate 260 0
data_if (Some p) = bits260 p

abbrev pub up_data : ℕ → Option Fields → List ℕ
up_data kind frame = if kind == 3 then replicate 260 1 else data_if frame

-- all of it; no time alignment is asked for, and DTXd is 0
abbrev pub up_words : ℕ → Bool → Option Fields → UpWords
up_words kind taf frame = record {
  kind = up_kind kind;
  class = up_class kind frame;
  taf = taf;
  dtxd = false;
  align = 0;
  d = up_data kind frame;
}

-- the 40 octets are those of the uplink frame for this frame of 33 octets; they carry the sync pattern, and say this
-- frame
pub record WrittenUplink (frame : List ℕ) (kind : ℕ) (taf : Bool) (octets : List ℕ) : Type 0 where
  pub given : Option Params
  pub carried : CarriesIf frame given
  pub bits : bits_of octets ≡ bits_saying (up_words kind taf (option_map fields_of given))
  pub synced : Synced (bits_of octets)
  pub says : words_in (bits_of octets) ≡ up_words kind taf (option_map fields_of given)

-- ---- what is read

-- the kind of a period that hears what is heard in a frame of this kind and class
abbrev pub kind_heard : Kind → Class → ℕ
kind_heard Speech Good = 0
kind_heard Speech Sid = 1
kind_heard Speech InvalidSid = 2
kind_heard Speech Unusable = 2
kind_heard Idle class = 3
kind_heard Other class = 2

-- TAF, which doesn't count in an invalid silence descriptor and in a frame of another kind
abbrev pub taf_heard : Kind → Class → Bool → Bool
taf_heard Speech Good taf = taf
taf_heard Speech Sid taf = taf
taf_heard Speech InvalidSid taf = false
taf_heard Speech Unusable taf = taf
taf_heard Idle class taf = taf
taf_heard Other class taf = false

-- kind, TAF and frame are those of the uplink frame of the 40 octets
pub record ReadUplink (octets : List ℕ) (kind : ℕ) (taf : Bool) (frame : List ℕ) : Type 0 where
  pub kind_is : kind ≡ kind_heard (words_in (bits_of octets)).kind (words_in (bits_of octets)).class
  pub taf_is : taf ≡ taf_heard (words_in (bits_of octets)).kind (words_in (bits_of octets)).class (words_in (bits_of octets)).taf
  pub carried : Carries frame (fields_in (words_in (bits_of octets)).d)
