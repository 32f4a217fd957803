-- The made frames of a call by number, given its bridges and the alignment fields of all its periods. Lists have the
-- newest first.
use Rattle.std.specs.Prelude.{ℕ, List}
use Rattle.down_framer.specs.ByNumber.{NumberedFrame, bridges_in, asked_fields, numbered_frames, numbered_start}
use Rattle.call_leg.specs.Periods.{CallPeriod}
use Rattle.call_leg.specs.Down.{down_periods}

-- the first j frames
abbrev pub first_frames : List CallPeriod → ℕ → List NumberedFrame
first_frames ts j = numbered_frames (bridges_in (down_periods ts)) (asked_fields (down_periods ts)) j

-- the octet of the Pcm line at which frame j starts
abbrev pub frame_start : List CallPeriod → ℕ → ℕ
frame_start ts j = numbered_start (first_frames ts j)
