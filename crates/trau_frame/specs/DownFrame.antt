-- The bits of a downlink frame (this project's profile, modelled on GSM 08.60).
use Rattle.std.specs.Prelude.{ℕ, ◌-◌, if◌then◌else◌, nat_le, ◌==◌, List, map, replicate}
use Rattle.std.specs.List.{range_with_len}
use Rattle.std.specs.Int.{bit_at}
use Rattle.trau_bits.specs.Bits.{AreBits}
use Rattle.trau_frame.specs.declared.frames.DownFrame.{DownFrame}
use Rattle.trau_frame.specs.declared.frames.DownFrame.TheVariants.{Idle, Speech}
use Rattle.trau_frame.specs.Frame.{frame_bits}

-- the data of a speech frame are bits
abbrev pub HasBits : DownFrame → Type 0
HasBits Idle = Unit {0}
HasBits (Speech d sp) = AreBits d

-- the number in C1 to C5: 01110 for idle and 11100 for speech
abbrev pub down_pattern : DownFrame → ℕ
down_pattern Idle = 14
down_pattern (Speech d sp) = 28

-- C16: SP, and 1 in an idle frame
abbrev pub sp_of : DownFrame → ℕ
sp_of Idle = 1
sp_of (Speech d sp) = if sp then 1 else 0

-- control bit c: the pattern in C1 to C5, no time alignment in C6 to C11, SP in C16, and 1 in the spare bits
abbrev pub down_control_bit : DownFrame → ℕ → ℕ
down_control_bit f c =
    if nat_le c 5 then bit_at (down_pattern f) (5 - c)
    else if nat_le c 11 then 0
    else if c == 16 then sp_of f
    else 1

-- C1 to C21
unfoldable pub down_control : DownFrame → List ℕ
down_control f = map (down_control_bit f) (range_with_len 1 21)

-- D1 to D260, all 1 in an idle frame
abbrev pub down_data : DownFrame → List ℕ
down_data Idle = replicate 260 1
down_data (Speech d sp) = d

-- the 320 bits of the frame
unfoldable pub down_bits : DownFrame → List ℕ
down_bits f = frame_bits (down_control f) (down_data f)
