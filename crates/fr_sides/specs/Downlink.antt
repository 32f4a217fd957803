-- The 40 octets of a downlink frame for a frame of 33 octets and its kind, and back (this project's profile, modelled
-- on GSM 08.60).
use Rattle.std.specs.Prelude.{◌≡◌, ℕ, true, false, if◌then◌else◌, ◌==◌, Option, Some, None, option_map, List}
use Rattle.trau_bits.specs.Bits.{bits_of}
use Rattle.trau_params.specs.declared.params.Params.{Params}
use Rattle.trau_params.specs.Fields.{Fields, fields_of, fields_in}
use Rattle.trau_params.specs.Bits260.{bits260}
use Rattle.trau_frame.specs.declared.frames.DownFrame.{DownFrame}
use Rattle.trau_frame.specs.declared.frames.DownFrame.TheVariants.{Idle, Speech}
use Rattle.trau_frame.specs.Role.{Control, bit_with}
use Rattle.trau_frame.specs.Frame.{Synced, number_in, data_of}
use Rattle.trau_frame.specs.DownFrame.{down_data, down_bits}
use Rattle.gsm_frame.specs.Packed.{Carries}
use Rattle.fr_sides.specs.Octets.{CarriesIf}

-- the frame that is sent: kind 0 is speech (SP 1), 1 a silence descriptor (SP 0); all else is idle, and so is a period
-- without a frame
abbrev pub down_frame : ℕ → Option Fields → DownFrame
down_frame kind None = Idle
down_frame kind (Some p) = if kind == 0 then Speech (bits260 p) true else if kind == 1 then Speech (bits260 p) false else Idle

-- the 40 octets are those of the downlink frame for this frame of 33 octets; they carry the sync pattern, and its data
-- bits
pub record WrittenDownlink (frame : List ℕ) (kind : ℕ) (octets : List ℕ) : Type 0 where
  pub given : Option Params
  pub carried : CarriesIf frame given
  pub bits : bits_of octets ≡ down_bits (down_frame kind (option_map fields_of given))
  pub synced : Synced (bits_of octets)
  pub data_bits : data_of (bits_of octets) ≡ down_data (down_frame kind (option_map fields_of given))

-- the kind by the number in C1 to C5 and by SP: 11100 is speech or a silence descriptor, 01110 is idle, any other
-- pattern has kind 2
abbrev pub kind_sent : ℕ → ℕ → ℕ
kind_sent pattern sp = if pattern == 28 then (if sp == 1 then 0 else 1) else if pattern == 14 then 3 else 2

-- kind and frame are those of the downlink frame of the 40 octets; SP is C16
pub record ReadDownlink (octets : List ℕ) (kind : ℕ) (frame : List ℕ) : Type 0 where
  pub kind_is : kind ≡ kind_sent (number_in (bits_of octets) 1 5) (bit_with (bits_of octets) (Control 16))
  pub carried : Carries frame (fields_in (data_of (bits_of octets)))
