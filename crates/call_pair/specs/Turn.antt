-- A job at its next place: the next place of its call, or of each of its two calls.
use Rattle.std.specs.Prelude.{ℕ, Bool, true, false, min}
use Rattle.trau_bits.specs.Bits.{octets_of}
use Rattle.rx_handler.specs.Origin.{EffectiveFields, Quiet}
use Rattle.call_leg.specs.Halves.{up_of, joined, down_turned}
use Rattle.call_pair.specs.Memory.{HalfMemory, Job, One, Two}
use Rattle.call_pair.specs.Periods.{pcm_at, with_out, with_period, has_period}
use Rattle.call_pair.specs.Phases.{next_up, down_before, item_if}

-- the effective frame of the next place; a bridge ends at place m
abbrev pub effective : ℕ → HalfMemory → EffectiveFields
effective m h = (next_up m h.io (up_of h.leg)).0.eff

-- The next place of a half: the uplink half; within a bridge, the handing over of the partner's effective frame; and
-- the downlink half.
abbrev pub half_place : ℕ → EffectiveFields → HalfMemory → HalfMemory
half_place m partner h =
    let up = next_up m h.io (up_of h.leg) in
    let before = down_before m h.io.done h.leg.down in
    let down = down_turned before up.0 (item_if before.bridged partner) (pcm_at h.io.done h.io) in
    record { leg = joined up.2 down.1; io = with_period (with_out h.io up.1) (octets_of down.0) }

-- The next place of a half, if one remains.
abbrev pub half_place_if : Bool → ℕ → EffectiveFields → HalfMemory → HalfMemory
half_place_if true m partner h = half_place m partner h
half_place_if false m partner h = h

-- A bridge of two halves ends after the places of the shorter. The effective frame of a half without a place goes
-- nowhere.
abbrev pub job_place : Job → Job
job_place (One h) = One (half_place_if (has_period h.io) 0 Quiet h)
job_place (Two a b) =
    let m = min a.io.given b.io.given in
    Two (half_place_if (has_period a.io) m (effective m b) a)
    (half_place_if (has_period b.io) m (effective m a) b)
