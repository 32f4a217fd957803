-- The Down line of a whole call: handed frames, idle frames and coded frames (GSM 06.10 and GSM 08.60; when each of
-- them is sent is this project's profile). Frames are numbered from 0. Lists have the oldest first, except lists of the
-- frames before a given one.
use Rattle.std.specs.Prelude.{◌≡◌, ◌≤◌, ◌<◌, ℕ, ◌*◌, ◌-◌, ℤ, Bool, true, not, ◌&&◌, if◌then◌else◌, nat_le, nat_lt, Some, None, is_none, unwrap_or, List, []}
use Rattle.std.specs.Prelude.{◌++◌, map, take, drop, replicate, reverse, filter}
use Rattle.std.specs.List.{flat_map, zip, list_any, list_all}
use Rattle.trau_alaw.specs.Period.{expanded}
use Rattle.trau_frame.specs.declared.frames.DownFrame.{DownFrame}
use Rattle.trau_frame.specs.declared.frames.DownFrame.TheVariants as frames
use Rattle.trau_frame.specs.DownFrame.{down_bits}
use Rattle.fr_encoder.specs.Encoded.{Encoded, encoded}
use Rattle.tx_dtx.specs.Stretch.{Coded}
use Rattle.tx_dtx.specs.Sent.{sent}
use Rattle.down_framer.specs.Made.{frame_on_line}
use Rattle.down_framer.specs.ByNumber.{Bridge, NumberedFrame, when, count_from, numbered_next, numbered_frames}
use Rattle.call_leg.specs.Down.{coded_as, speech}
use Rattle.call_spec.specs.Stretches.{stretches}
use Rattle.call_spec.specs.Call.{Call, Span, periods, setting_at, is_quiet_at, fields, dtx_at, item_at}

-- ---- the made frames

-- a span without its items
abbrev pub without_items : Span → Bridge
without_items span = record { from = span.from; to = span.to }

-- The first j frames, the newest first, and frame j after them. It starts where the one before says. It carries the
-- item that a span has for it; without one it has the shift that was asked for last.
abbrev pub first_frames : Call → ℕ → List NumberedFrame
first_frames call j = numbered_frames (map without_items call.spans) (fields call) j

abbrev pub frame_by_number : Call → ℕ → NumberedFrame
frame_by_number call j = numbered_next (map without_items call.spans) (fields call) (first_frames call j)

-- the frames that are made in the call's periods, of the first m
abbrev pub made_among : Call → ℕ → List NumberedFrame
made_among call m = filter (λ f. nat_lt (when f.start) (periods call)) (first_frames call m)

-- all frames that are made: two for each period are enough
abbrev pub frames_of_call : Call → List NumberedFrame
frames_of_call call = reverse (made_among call (2 * periods call))

-- A span has item i for frame j if the frame isn't made before the span's first period, exactly i of the earlier frames
-- are made in that period or later, and i is less than the number of the span's periods.
pub record HasItem (call : Call) (span : Span) (j i : ℕ) : Type 0 where
  pub number : i ≡ count_from span.from (first_frames call j)
  pub begun : span.from ≤ when (frame_by_number call j).start
  pub left : i < span.to - span.from

-- ---- their contents

-- a frame is coded if it carries no item and its period isn't quiet
abbrev pub is_coded : Call → NumberedFrame → Bool
is_coded call f = is_none f.carries && not (is_quiet_at call (when f.start))

-- A coded stretch continues from one coded frame to the next, unless a span, even an empty one, starts after the first
-- one's period and not after the second one's.
abbrev pub coded_goes_on : Call → NumberedFrame → NumberedFrame → Bool
coded_goes_on call f g =
    is_coded call f && is_coded call g &&
    not (list_any (λ span. nat_lt (when f.start) span.from && nat_le span.from (when g.start)) call.spans)

-- the samples of a frame: octets start to start + 159 of the Pcm line, expanded by the call's law
abbrev pub samples : Call → NumberedFrame → List ℤ
samples call f = expanded call.who.law (take 160 (drop f.start call.pcm))

-- an encoding with the level and DTX in force in the frame's period
abbrev pub in_force : Call → Encoded × NumberedFrame → Coded
in_force call x = coded_as x.0 (setting_at call (when x.1.start)).level (dtx_at call (when x.1.start))

-- a coded stretch, encoded from the reset state over all its samples
abbrev pub coded : Call → List NumberedFrame → List Coded
coded call stretch = map (in_force call) (zip (encoded (map (samples call) stretch)) stretch)

-- a frame that isn't coded: a speech frame of its item with SP 1, or idle
abbrev pub uncoded : Call → NumberedFrame → DownFrame
uncoded call f = elim f.carries [
  | Some h ↦ frames.Speech (unwrap_or (item_at call.spans h) []) true
  | None ↦ frames.Idle
]

-- the frames of a coded stretch as they are sent, or a frame that isn't coded
abbrev pub stretch_frames : Call → List NumberedFrame → List DownFrame
stretch_frames call fs = if list_all (is_coded call) fs then map speech (sent (coded call fs)) else map (uncoded call) fs

-- all of these frames, as they are sent
abbrev pub down_frames : Call → List NumberedFrame → List DownFrame
down_frames call fs = flat_map (stretch_frames call) (stretches (coded_goes_on call) fs)

-- ---- the line

-- the bits of a frame on the line, with what its shift adds or leaves out
abbrev pub bits_on_line : NumberedFrame × DownFrame → List ℕ
bits_on_line x = frame_on_line x.0.shift (down_bits x.1)

-- 320 ones, then each frame
abbrev pub line : Call → List NumberedFrame → List ℕ
line call fs = replicate 320 1 ++ flat_map bits_on_line (zip fs (down_frames call fs))

-- the bits of the whole Down line, 320 for each period
abbrev pub down : Call → List ℕ
down call = take (320 * periods call) (line call (frames_of_call call))
