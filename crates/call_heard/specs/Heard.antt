-- The frames of a call's downlink as a base station should find them. Lists have the oldest first.
use Rattle.std.specs.Prelude.{◌≡◌, ◌+◌, ◌*◌, Some, All, List, length, map}
use Rattle.std.specs.List.{zip}
use Rattle.trau_frame.specs.declared.frames.DownFrame.{DownFrame}
use Rattle.down_framer.specs.ByNumber.{NumberedFrame}
use Rattle.ccu_end.specs.Found.{FoundFrame}
use Rattle.call_spec.specs.Call.{Call}
use Rattle.call_spec.specs.Down.{frames_of_call, down_frames}

-- a made frame with what is sent in it, and its place: after 320 ones and two bits for each octet of the Pcm line
-- before its start
abbrev pub found_as : NumberedFrame × DownFrame → FoundFrame
found_as x = record { place = 320 + 2 * x.0.start; frame = Some x.1 }

-- the first of a call's frames, as they are sent
abbrev pub found_among : Call → List NumberedFrame → List FoundFrame
found_among call fs = map found_as (zip fs (down_frames call fs))

-- all frames that the call makes
abbrev pub found_of : Call → List FoundFrame
found_of call = found_among call (frames_of_call call)

-- each item of its spans has 260 bits
abbrev pub SpansHandFrames : Call → Type 0
SpansHandFrames call = All (λ span. All (λ item. length item ≡ 260) span.items) call.spans
