-- Where a packet of the source that is heard belongs, or why it isn't taken (this project's profile). Periods, ticks
-- and waits are numbers of 32 bits.
use Rattle.std.specs.Prelude.{◌≡◌, ℕ, min, ◌+◌, ◌-◌, ◌*◌, ◌%◌, ◌^◌, Bool, true, false, not, ◌&&◌, ◌||◌, if◌then◌else◌, ◌==◌, nat_le, nat_lt, Option, Some, None}
use Rattle.rtp_packet.specs.declared.header.Header.{Header}
use Rattle.rtp_buffer.specs.declared.pace.Pace.{Pace}
use Rattle.rtp_buffer.specs.Watch.{on, back}
use Rattle.rtp_buffer.specs.Pace.{wait_of, is_late, pace_home, followed}
use Rattle.rtp_buffer.specs.Buffer.{period_at}
use Rattle.rtp_stream.specs.declared.place.Place.{Place}
use Rattle.rtp_stream.specs.declared.track.Next.{Next}
use Rattle.rtp_stream.specs.declared.track.GivenUp.{GivenUp}
use Rattle.rtp_stream.specs.declared.track.Track.{Track}
use Rattle.rtp_stream.specs.declared.track.Placed.{Placed}
use Rattle.rtp_stream.specs.declared.track.Placed.TheVariants.{At, Jump, GivenUp as IsGivenUp, Far}
use Rattle.rtp_packet.specs.declared.reception.Reception.{Reception}
use Rattle.rtp_packet.specs.Reception.{counted}
use Rattle.rtp_buffer.specs.declared.octet.Octet.TheVariants.{Missing}
use Rattle.rtp_buffer.specs.Store.{place}
use Rattle.rtp_stream.specs.declared.source.Sources.{Sources}
use Rattle.rtp_stream.specs.declared.source.Verdict.{Verdict}
use Rattle.rtp_stream.specs.Sources.{judged}
use Rattle.rtp_stream.specs.declared.stream.Stream.{Stream}
use Rattle.rtp_stream.specs.declared.stream.Arrival.{Arrival}
use Rattle.rtp_stream.specs.declared.stream.Arrival.TheVariants.{At as Belongs, NewSource, OnProbation, Jump as JumpsTo, GivenUp as WasGivenUp, Far as IsFar}
use Rattle.rtp_stream.specs.Places.{period_samples, place_of, is_newer}

-- a packet may be so many periods ahead or behind, a second
abbrev pub limit : ℕ
limit = 50

-- a stream's first packet waits so many ticks at most, half a second
abbrev pub most_depth : ℕ
most_depth = 25

-- a source that has brought nothing for so many ticks beyond the depth is still
abbrev pub still : ℕ
still = 2

-- A stream begins with a packet of this time stamp: it belongs to period 0. A packet of frames belongs to the nearest
-- period, and so begins half a period in, the offset.
abbrev pub track_home : ℕ → ℕ → Track
track_home offset timestamp = record {
  offset = offset;
  newest = record { timestamp = timestamp; place = record { period = 0; sample = offset } };
  jump = None;
  given_up = record { periods = 0; at = 0 };
}

-- further away than a second, and than the tick is behind
abbrev pub is_far : ℕ → ℕ → Bool
is_far wait behind = nat_lt (2 * limit + behind) (on wait limit)

-- ---- time that was given up

-- Packets of time that the clock has given up may still come for a second, up to the first one that is neither late nor
-- far away.
abbrev pub still_given_up : GivenUp → ℕ → ℕ → ℕ → GivenUp
still_given_up given_up wait tick behind =
    if (not (is_late wait) && not (is_far wait behind)) || nat_le limit (back tick given_up.at) then record given_up { periods = 0 } else given_up

-- the clock gives up so many periods more, at a tick
abbrev pub track_given_up : Track → ℕ → ℕ → Track
track_given_up track periods tick = record track { given_up = record { periods = min (track.given_up.periods + periods) (2 ^ 32 - 1); at = tick } }

abbrev pub is_given_up : ℕ → ℕ → Bool
is_given_up periods wait = nat_lt 0 periods && (is_late wait && nat_le (back 0 wait) (periods + limit))

-- ---- a jump of the time stamps

-- the packet that follows one of so many samples
abbrev pub next_of : Header → ℕ → Next
next_of header samples = record { number = (header.sequence_number + 1) % 2 ^ 16; timestamp = on header.timestamp samples }

abbrev pub is_next : Option Next → Header → Bool
is_next None header = false
is_next (Some next) header = (next.number == header.sequence_number) && (next.timestamp == header.timestamp)

-- **A jump is believed if the very next packet follows it,** in number and time stamp (as A.1 of RFC 3550 does with
-- numbers): the stream begins anew.
abbrev pub placed_far : Track → Header → ℕ → Track × Placed
placed_far track header samples =
    if is_next track.jump header then (track_home track.offset header.timestamp, Jump)
    else (record track { jump = Some (next_of header samples) }, Far)

-- ---- all others

-- one that is newer than all before is the newest
abbrev pub with_newest : Track → ℕ → Place → Track
with_newest track timestamp place =
    if is_newer timestamp track.newest.timestamp then record track { newest = record { timestamp = timestamp; place = place } } else track

abbrev pub placed_near : Track → ℕ → Place → Track × Placed
placed_near track timestamp place = (with_newest (record track { jump = None }) timestamp place, At place)

abbrev pub placed_at : Track → Header → ℕ → Place → ℕ → ℕ → Track × Placed
placed_at track header samples place wait behind =
    if is_given_up track.given_up.periods wait then (track, IsGivenUp)
    else if is_far wait behind then placed_far track header samples
    else placed_near track header.timestamp place

-- **where a packet belongs**
abbrev pub placed : Track → Pace → Header → ℕ → ℕ → ℕ → Track × Placed
placed track pace header samples tick behind =
    let place = place_of track.newest header.timestamp in
    let wait = wait_of pace place.period tick in
    placed_at (record track { given_up = still_given_up track.given_up wait tick behind }) header samples place wait behind

-- the pace follows a packet that is newer than all before
abbrev pub pace_after : Track → Pace → ℕ → ℕ → Pace
pace_after track pace timestamp tick =
    if is_newer timestamp track.newest.timestamp then followed pace (wait_of pace (place_of track.newest timestamp).period tick) tick else pace

-- ---- the whole stream

-- whether no packet was taken for two ticks more than the depth, and all that was taken is played
abbrev pub is_still : ℕ → ℕ → Pace → ℕ → ℕ → Bool
is_still depth heard_at pace newest tick = nat_lt (depth + still) (back tick heard_at) && is_late (wait_of pace newest tick)

-- a packet's arrival less its time stamp, unless it is read late
abbrev pub transit_of : Track → ℕ → ℕ → ℕ → Option ℕ
transit_of track timestamp tick behind =
    if (behind == 0) && (track.given_up.periods == 0) then Some (back (tick * period_samples % 2 ^ 32) timestamp) else None

-- what the place of a packet means for the stream
abbrev pub arrival_of : Placed → Arrival
arrival_of (At place) = Belongs place
arrival_of Jump = JumpsTo
arrival_of IsGivenUp = WasGivenUp
arrival_of Far = IsFar

-- whether a packet is taken
abbrev pub is_taken : Arrival → Bool
is_taken (Belongs place) = true
is_taken NewSource = true
is_taken JumpsTo = true
is_taken OnProbation = false
is_taken WasGivenUp = false
is_taken IsFar = false

-- what a packet's source is to a stream, and where its packet belongs if it is the one that is heard
abbrev pub judged_in : {N : ℕ} → Stream N → Header → ℕ → Sources × Verdict
judged_in stream header tick =
    judged stream.sources header.source header.sequence_number tick (is_still stream.depth stream.heard_at stream.buffer.pace stream.buffer.newest tick)

abbrev pub placed_in : {N : ℕ} → Stream N → Header → ℕ → ℕ → ℕ → Track × Placed
placed_in stream header samples tick behind = placed stream.track stream.buffer.pace header samples tick behind

-- what came of the source, after a packet that counts
abbrev pub reception_after : {N : ℕ} → Stream N → Reception → Header → ℕ → ℕ → Reception
reception_after stream before header tick behind = counted before header.sequence_number (transit_of stream.track header.timestamp tick behind)

-- nothing is held or was played, and what comes next waits `depth` ticks from this tick on
pub record BeginsAt {N : ℕ} (stream : Stream N) (depth tick : ℕ) : Type 0 where
  pub pace : stream.buffer.pace ≡ pace_home depth tick
  pub newest : stream.buffer.newest ≡ back (period_at stream.buffer.pace tick) 1
  pub store : (period k : ℕ) → place stream.buffer.store.slots period k ≡ Missing
