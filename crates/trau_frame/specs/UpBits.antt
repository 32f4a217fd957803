-- The bits of an uplink frame (this project's profile, modelled on GSM 08.60 and GSM 06.31).
use Rattle.std.specs.Prelude.{◌≡◌, ℕ, ◌-◌, if◌then◌else◌, nat_le, ◌==◌, List, map}
use Rattle.std.specs.List.{range_with_len}
use Rattle.std.specs.Int.{bit_at}
use Rattle.trau_frame.specs.declared.frames.Kind.{Kind}
use Rattle.trau_frame.specs.declared.frames.Kind.TheVariants.{Speech, Idle, Other}
use Rattle.trau_frame.specs.declared.frames.Class.{Class}
use Rattle.trau_frame.specs.declared.frames.Class.TheVariants.{Good, Sid, InvalidSid, Unusable}
use Rattle.trau_frame.specs.declared.frames.UpFrame.{UpFrame}
use Rattle.trau_frame.specs.Frame.{frame_bits}
use Rattle.trau_frame.specs.UpFrame.{UpWords, up_words_of}

-- the number in C1 to C5: 00010 for speech, 10000 for idle and 11111 for other frames
abbrev pub up_pattern : Kind → ℕ
up_pattern Speech = 2
up_pattern Idle = 16
up_pattern Other = 31

-- C12: the bad frame indicator of a class
abbrev pub bfi_of : Class → ℕ
bfi_of Good = 0
bfi_of Sid = 0
bfi_of InvalidSid = 0
bfi_of Unusable = 1

-- the number in C13 and C14, the silence descriptor of a class
abbrev pub sid_code_of : Class → ℕ
sid_code_of Good = 0
sid_code_of Sid = 2
sid_code_of InvalidSid = 1
sid_code_of Unusable = 0

-- control bit c: the pattern in C1 to C5, the alignment field in C6 to C11, the class in C12 to C14, TAF in C15,
-- DTXd in C17, and 1 in the spare bits
abbrev pub up_control_bit : UpWords → ℕ → ℕ
up_control_bit w c =
    if nat_le c 5 then bit_at (up_pattern w.kind) (5 - c)
    else if nat_le c 11 then bit_at w.align (11 - c)
    else if c == 12 then bfi_of w.class
    else if nat_le c 14 then bit_at (sid_code_of w.class) (14 - c)
    else if c == 15 then (if w.taf then 1 else 0)
    else if c == 17 then (if w.dtxd then 1 else 0)
    else 1

-- C1 to C21
unfoldable pub up_control : UpWords → List ℕ
up_control w = map (up_control_bit w) (range_with_len 1 21)

-- the 320 bits of the frame that says this
unfoldable pub bits_saying : UpWords → List ℕ
bits_saying w = frame_bits (up_control w) w.d

-- the same, for the code's struct
abbrev pub up_bits : UpFrame → List ℕ
up_bits f = bits_saying (up_words_of f)

-- a class that fits a frame of this kind: any for speech, and Unusable for the others
abbrev pub FitsKind : Kind → Class → Type 0
FitsKind Speech class = Unit {0}
FitsKind Idle class = class ≡ Unusable
FitsKind Other class = class ≡ Unusable

-- both frames say the same
abbrev pub SameFrame : UpFrame → UpFrame → Type 0
SameFrame f g = up_words_of f ≡ up_words_of g
