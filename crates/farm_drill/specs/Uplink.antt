-- The uplink of a drilled call (this project's profile): a frame of drawn fields in each period, or nothing.
use Rattle.std.specs.Prelude.{ℕ, ◌+◌, ◌%◌, true, ◌==◌, nat_lt, if◌then◌else◌, List, replicate}
use Rattle.trau_bits.specs.Bits.{octets_of}
use Rattle.trau_frame.specs.declared.frames.Kind.{Kind}
use Rattle.trau_frame.specs.declared.frames.Kind.TheVariants.{Speech, Idle}
use Rattle.trau_frame.specs.declared.frames.Class.{Class}
use Rattle.trau_frame.specs.declared.frames.Class.TheVariants.{Good, Sid, InvalidSid, Unusable}
use Rattle.trau_frame.specs.UpFrame.{UpWords}
use Rattle.trau_frame.specs.UpBits.{bits_saying}
use Rattle.farm_drill.specs.Draws.{draw, drawn_bits, first_draw}

-- by a period's first draw: of its 256 values 200 give good speech, 20 a silence descriptor, 10 an invalid one, 14 an
-- unusable frame, 6 an idle frame, which is unusable too, and 6 no frame
abbrev pub class_drawn : ℕ → Class
class_drawn t =
    if nat_lt t 200 then Good
    else if nat_lt t 220 then Sid
    else if nat_lt t 230 then InvalidSid
    else Unusable

abbrev pub kind_drawn : ℕ → Kind
kind_drawn t = if nat_lt t 244 then Speech else Idle

-- by a period's last draw for the uplink: the alignment field
abbrev pub field_drawn : ℕ → ℕ
field_drawn a = if a == 0 then 39 else if a == 1 then 63 else 0

-- the frame of a period: its first draw, 260 draws for D1 to D260, and its last. TAF is 1 in the last of each 24
-- periods, DTXd in all
abbrev pub frame_drawn : ℕ → ℕ → ℕ → UpWords
frame_drawn seed call period =
    let first = first_draw period in
    record {
      kind = kind_drawn (draw seed call first);
      class = class_drawn (draw seed call first);
      taf = period % 24 == 23;
      dtxd = true;
      align = field_drawn (draw seed call (first + 261));
      d = drawn_bits seed call (first + 1) 260;
    }

-- the 40 octets of a period: those of the frame's bits, or octets 00 if there is no frame
unfoldable pub up_octets : ℕ → ℕ → ℕ → List ℕ
up_octets seed call period =
    if nat_lt (draw seed call (first_draw period)) 250 then octets_of (bits_saying (frame_drawn seed call period))
    else replicate 40 0
