-- What the bits of an uplink frame say (this project's profile, modelled on GSM 08.60 and GSM 06.31).
use Rattle.std.specs.Prelude.{◌≡◌, ℕ, Bool, if◌then◌else◌, ◌==◌, List}
use Rattle.trau_frame.specs.declared.frames.Kind.{Kind}
use Rattle.trau_frame.specs.declared.frames.Kind.TheVariants.{Speech, Idle, Other}
use Rattle.trau_frame.specs.declared.frames.Class.{Class}
use Rattle.trau_frame.specs.declared.frames.Class.TheVariants.{Good, Sid, InvalidSid, Unusable}
use Rattle.trau_frame.specs.declared.frames.UpFrame.{UpFrame}
use Rattle.trau_frame.specs.Role.{Control, bit_with}
use Rattle.trau_frame.specs.Frame.{number_in, data_of}

-- the kind by the number in C1 to C5: 00010 for speech and 10000 for idle
abbrev pub kind_by : ℕ → Kind
kind_by pattern =
    if pattern == 2 then Speech
    else if pattern == 16 then Idle
    else Other

-- the class of a speech frame by its bad frame indicator and the number in its silence descriptor bits
abbrev pub class_by : ℕ → ℕ → Class
class_by bfi sid =
    if sid == 0 then (if bfi == 0 then Good else Unusable)
    else if sid == 2 then (if bfi == 0 then Sid else InvalidSid)
    else InvalidSid

-- the class of a frame of any kind: Unusable if it isn't speech
abbrev pub class_at : Kind → ℕ → ℕ → Class
class_at Speech bfi sid = class_by bfi sid
class_at Idle bfi sid = Unusable
class_at Other bfi sid = Unusable

-- C1 to C5
abbrev pub kind_of : List ℕ → Kind
kind_of bits = kind_by (number_in bits 1 5)

-- C12 is the bad frame indicator, C13 and C14 are the silence descriptor
abbrev pub class_of : List ℕ → Class
class_of bits = class_at (kind_of bits) (bit_with bits (Control 12)) (number_in bits 13 2)

-- what an uplink frame says
pub record UpWords : Type 0 where
  pub kind : Kind
  pub class : Class
  pub taf : Bool
  pub dtxd : Bool
  pub align : ℕ
  pub d : List ℕ

-- by its 320 bits: C6 to C11 are the time alignment field, C15 is TAF and C17 is DTXd
unfoldable pub words_in : List ℕ → UpWords
words_in bits = record {
  kind = kind_of bits;
  class = class_of bits;
  taf = bit_with bits (Control 15) == 1;
  dtxd = bit_with bits (Control 17) == 1;
  align = number_in bits 6 6;
  d = data_of bits;
}

-- the same, from the code's struct
abbrev pub up_words_of : UpFrame → UpWords
up_words_of f = record { kind = f.kind; class = f.class; taf = f.taf; dtxd = f.dtxd; align = f.align; d = f.d }

-- the frame is what the bits say
abbrev pub Says : List ℕ → UpFrame → Type 0
Says bits f = up_words_of f ≡ words_in bits
