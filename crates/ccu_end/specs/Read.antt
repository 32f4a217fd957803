-- What the bits of a downlink frame say (this project's profile, modelled on GSM 08.60).
use Rattle.std.specs.Prelude.{◌≡◌, ℕ, ◌<◌, if◌then◌else◌, ◌==◌, Option, Some, None, List, length, slice_index}
use Rattle.trau_frame.specs.declared.frames.DownFrame.{DownFrame}
use Rattle.trau_frame.specs.declared.frames.DownFrame.TheVariants.{Idle, Speech}
use Rattle.trau_frame.specs.Role.{Control, bit_with}
use Rattle.trau_frame.specs.Frame.{number_in, data_of}

-- the frame by the number in C1 to C5: 01110 is idle, 11100 is speech, whose C16 is SP; any other is no downlink frame
abbrev pub frame_by : ℕ → List ℕ → Option DownFrame
frame_by pattern bits =
    if pattern == 14 then Some Idle
    else if pattern == 28 then Some (Speech (data_of bits) (bit_with bits (Control 16) == 1))
    else None

-- the frame by its bits; no T bit is read
abbrev pub down_frame_in : List ℕ → Option DownFrame
down_frame_in bits = frame_by (number_in bits 1 5) bits

-- a speech frame carries 260 data bits
abbrev pub HasLength : DownFrame → Type 0
HasLength Idle = Unit {0}
HasLength (Speech d sp) = length d ≡ 260

-- both lists have the same first 316 bits
abbrev pub Alike : List ℕ → List ℕ → Type 0
Alike a b = (i : ℕ) → i < 316 → slice_index a i ≡ slice_index b i
