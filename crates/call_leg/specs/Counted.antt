-- What is counted of a call (this project's profile). Lists have the newest period first.
use Rattle.std.specs.Prelude.{ℕ, ◌+◌, List, [], ◌∷◌, length}
use Rattle.trau_frame.specs.declared.frames.Kind.{Kind}
use Rattle.trau_frame.specs.declared.frames.Kind.TheVariants.{Speech, Idle, Other}
use Rattle.trau_frame.specs.declared.frames.Class.{Class}
use Rattle.trau_frame.specs.declared.frames.Class.TheVariants.{Good, Sid, InvalidSid, Unusable}
use Rattle.trau_io.specs.declared.ends.Counts.{Counts}
use Rattle.call_leg.specs.Uplink.{Sighting, Nothing, Missed, Framed}
use Rattle.call_leg.specs.Periods.{CallPeriod, sighting_after}
use Rattle.call_leg.specs.Down.{frames_of}

abbrev pub no_counts : Counts
no_counts = record { good = 0; sid = 0; invalid = 0; bad = 0; idle = 0; other = 0; miss = 0; none = 0; made = 0 }

-- one frame more, by its kind and class
abbrev pub counted_frame : Kind → Class → Counts → Counts
counted_frame Speech Good n = record n { good = n.good + 1 }
counted_frame Speech Sid n = record n { sid = n.sid + 1 }
counted_frame Speech InvalidSid n = record n { invalid = n.invalid + 1 }
counted_frame Speech Unusable n = record n { bad = n.bad + 1 }
counted_frame Idle class n = record n { idle = n.idle + 1 }
counted_frame Other class n = record n { other = n.other + 1 }

-- one period more
abbrev pub counted : Sighting → Counts → Counts
counted Nothing n = record n { none = n.none + 1 }
counted Missed n = record n { miss = n.miss + 1 }
counted (Framed w) n = counted_frame w.kind w.class n

-- the counts over all periods
abbrev pub sightings_counted : List CallPeriod → Counts
sightings_counted [] = no_counts
sightings_counted (t ∷ past) = counted (sighting_after past t.up) (sightings_counted past)

-- the number of periods that were counted, each once
abbrev pub sighted_in : Counts → ℕ
sighted_in n = n.good + n.sid + n.invalid + n.bad + n.idle + n.other + n.miss + n.none

-- all counts of a call: those over its periods, and the number of its made frames
abbrev pub call_counts : List CallPeriod → Counts
call_counts ts = record (sightings_counted ts) { made = length (frames_of ts) }
