-- What becomes of a datagram (RFC 3550, section 5.1 and appendix A, and this project's profile).
use Rattle.std.specs.Prelude.{◌≡◌, ℕ, ◌-◌, ◌*◌, ◌/◌, ◌%◌, Bool, not, ◌&&◌, if◌then◌else◌, ◌==◌, nat_lt, Option, Some, None, Result, Ok, Err, List, length, slice_range, is_some}
use Rattle.rtp_packet.specs.declared.header.Header.{Header}
use Rattle.rtp_packet.specs.declared.packet.Packet.{Packet}
use Rattle.rtp_packet.specs.declared.packet.Refusal.{Refusal}
use Rattle.rtp_packet.specs.declared.packet.Refusal.TheVariants.{Short, Version, Control as IsControl, Cut, Padding, Overlap}
use Rattle.rtp_packet.specs.declared.reception.Reception.{Reception}
use Rattle.rtp_packet.specs.Packet.{packet_of}
use Rattle.rtp_packet.specs.Reception.{reception_home, counted, missing_of}
use Rattle.rtp_buffer.specs.declared.buffer.Buffer.{Buffer}
use Rattle.rtp_buffer.specs.Watch.{on, back}
use Rattle.rtp_buffer.specs.History.{Deed, Stands}
use Rattle.rtp_stream.specs.declared.place.Place.{Place}
use Rattle.rtp_stream.specs.Places.{period_samples}
use Rattle.rtp_stream.specs.declared.source.Sources.{Sources}
use Rattle.rtp_stream.specs.declared.source.Verdict.{Verdict}
use Rattle.rtp_stream.specs.declared.track.Track.{Track}
use Rattle.rtp_stream.specs.declared.source.Verdict.TheVariants.{Heard, Begins, OnProbation as IsOnProbation}
use Rattle.rtp_stream.specs.declared.track.Placed.{Placed}
use Rattle.rtp_stream.specs.declared.stream.Stream.{Stream}
use Rattle.rtp_stream.specs.declared.stream.Arrival.{Arrival}
use Rattle.rtp_stream.specs.declared.stream.Arrival.TheVariants.{At, NewSource, Jump, OnProbation as WaitsOnProbation, GivenUp as WasGivenUp, Far as IsFar}
use Rattle.rtp_stream.specs.Stream.{judged_in, placed_in, arrival_of, reception_after, pace_after, BeginsAt, track_home}
use Rattle.rtp_stream.specs.Payload.{IsLaid, IsLaidEverywhere, period_outcome, is_taken, is_late_one, is_doubled, periods_that, newest_after, most_periods, with_periods, pace_laid}
use Rattle.rtp_session.specs.declared.counts.Counts.{Counts}
use Rattle.rtp_session.specs.declared.incoming.Incoming.{Incoming}
use Rattle.rtp_session.specs.declared.incoming.Outcome.{Outcome}
use Rattle.rtp_session.specs.declared.incoming.Outcome.TheVariants.{Taken, NoPacket, Control, OtherType, Empty, OddSize, TooLong, OnProbation, GivenUp, Far}
use Rattle.rtp_session.specs.Counts.{with_outcome}
use Rattle.rtp_session.specs.Incoming.{KeepsSettings}

-- ---- the outcome

-- the periods of the longest payload, a second
abbrev pub longest_payload : ℕ
longest_payload = 50

-- why a packet with a payload of so many octets is never played, if there is a reason
abbrev pub refused_by : {N : ℕ} → Incoming N → ℕ → ℕ → Option Outcome
refused_by {N} incoming payload_type size =
    if not (payload_type == incoming.payload_type) then Some OtherType
    else if size == 0 then Some Empty
    else if incoming.is_framed && not (size % N == 0) then Some OddSize
    else if nat_lt (longest_payload * N) size then Some TooLong
    else None

-- the samples of a payload, of which a period has so many octets
abbrev pub samples_of : ℕ → ℕ → ℕ
samples_of size octets = octets * period_samples / size

-- what a packet is to the stream: by its source, and if that is heard by its place
abbrev pub arrival_by : Verdict → Placed → Arrival
arrival_by Heard placed = arrival_of placed
arrival_by Begins placed = NewSource
arrival_by IsOnProbation placed = WaitsOnProbation

abbrev pub arrival_in : {N : ℕ} → Stream N → Header → ℕ → ℕ → ℕ → Arrival
arrival_in stream header samples tick behind = arrival_by (judged_in stream header tick).1 (placed_in stream header samples tick behind).1

abbrev pub outcome_by : Arrival → Outcome
outcome_by (At place) = Taken
outcome_by NewSource = Taken
outcome_by Jump = Taken
outcome_by WaitsOnProbation = OnProbation
outcome_by WasGivenUp = GivenUp
outcome_by IsFar = Far

abbrev pub outcome_unless : Option Outcome → Arrival → Outcome
outcome_unless (Some refused) arrival = refused
outcome_unless None arrival = outcome_by arrival

-- by a packet with a payload of so many octets
abbrev pub packet_outcome : {N : ℕ} → Incoming N → Header → ℕ → ℕ → ℕ → Outcome
packet_outcome {N} incoming header size tick behind =
    outcome_unless (refused_by incoming header.payload_type size) (arrival_in incoming.stream header (samples_of N size) tick behind)

abbrev pub outcome_in : {N : ℕ} → Incoming N → Result Packet Refusal → ℕ → ℕ → Outcome
outcome_in incoming (Err Short) tick behind = NoPacket
outcome_in incoming (Err Version) tick behind = NoPacket
outcome_in incoming (Err IsControl) tick behind = Control
outcome_in incoming (Err Cut) tick behind = NoPacket
outcome_in incoming (Err Padding) tick behind = NoPacket
outcome_in incoming (Err Overlap) tick behind = NoPacket
outcome_in incoming (Ok packet) tick behind = packet_outcome incoming packet.header (packet.until - packet.from) tick behind

-- ---- what came of the source that is heard

-- **A packet that is never played counts as received if its source is the one that is heard.** A stranger's doesn't.
abbrev pub unplayed_by : Option ℕ → Reception → Header → Reception
unplayed_by None reception header = reception
unplayed_by (Some source) reception header = if source == header.source then counted reception header.sequence_number None else reception

-- any other by its source
abbrev pub received_by : {N : ℕ} → Verdict → Stream N → Header → ℕ → ℕ → Reception
received_by Heard stream header tick behind = reception_after stream stream.reception header tick behind
received_by Begins stream header tick behind = reception_after stream (reception_home header.source header.sequence_number) header tick behind
received_by IsOnProbation stream header tick behind = stream.reception

abbrev pub received_unless : {N : ℕ} → Option Outcome → Stream N → Header → ℕ → ℕ → Reception
received_unless (Some refused) stream header tick behind = unplayed_by stream.sources.heard stream.reception header
received_unless None stream header tick behind = received_by (judged_in stream header tick).1 stream header tick behind

abbrev pub reception_in : {N : ℕ} → Incoming N → Result Packet Refusal → ℕ → ℕ → Reception
reception_in incoming (Err refusal) tick behind = incoming.stream.reception
reception_in incoming (Ok packet) tick behind =
    received_unless (refused_by incoming packet.header.payload_type (packet.until - packet.from)) incoming.stream packet.header tick behind

-- ---- whose packets are taken after it, and where they belong

abbrev pub sources_unless : {N : ℕ} → Option Outcome → Stream N → Header → ℕ → Sources
sources_unless (Some refused) stream header tick = stream.sources
sources_unless None stream header tick = (judged_in stream header tick).0

abbrev pub sources_in : {N : ℕ} → Incoming N → Result Packet Refusal → ℕ → Sources
sources_in incoming (Err refusal) tick = incoming.stream.sources
sources_in incoming (Ok packet) tick =
    sources_unless (refused_by incoming packet.header.payload_type (packet.until - packet.from)) incoming.stream packet.header tick

abbrev pub track_by : {N : ℕ} → Verdict → Stream N → Header → ℕ → ℕ → ℕ → Track
track_by Heard stream header samples tick behind = (placed_in stream header samples tick behind).0
track_by Begins stream header samples tick behind = track_home stream.track.offset header.timestamp
track_by IsOnProbation stream header samples tick behind = stream.track

abbrev pub track_unless : {N : ℕ} → Option Outcome → Stream N → Header → ℕ → ℕ → ℕ → Track
track_unless (Some refused) stream header samples tick behind = stream.track
track_unless None stream header samples tick behind = track_by (judged_in stream header tick).1 stream header samples tick behind

abbrev pub track_in : {N : ℕ} → Incoming N → Result Packet Refusal → ℕ → ℕ → Track
track_in incoming (Err refusal) tick behind = incoming.stream.track
track_in {N} incoming (Ok packet) tick behind =
    track_unless (refused_by incoming packet.header.payload_type (packet.until - packet.from)) incoming.stream packet.header
    (samples_of N (packet.until - packet.from)) tick behind

-- ---- what is played

-- the stream as a packet's arrival leaves it: a packet that begins a stream belongs to its first period
pub record Arrives {N : ℕ} (old new : Stream N) (header : Header) (arrival : Arrival) (tick behind : ℕ) : Type 0 where
  pub at : (place : Place) → arrival ≡ At place → (new.buffer.pace ≡ pace_after old.track old.buffer.pace header.timestamp tick)
      × (new.buffer.store ≡ old.buffer.store) × (new.buffer.newest ≡ old.buffer.newest) × (new.heard_at ≡ tick)
  pub begins : arrival ≡ NewSource → BeginsAt new old.depth (on tick behind) × (new.heard_at ≡ tick)
  pub jumps : arrival ≡ Jump → BeginsAt new old.depth (on tick behind) × (new.heard_at ≡ tick)

-- where its payload begins: the period, and the octet of it; frames begin where periods do
abbrev pub first_of : Arrival → ℕ
first_of (At place) = place.period
first_of NewSource = 0
first_of Jump = 0
first_of WaitsOnProbation = 0
first_of WasGivenUp = 0
first_of IsFar = 0

abbrev pub octet_of : ℕ → Bool → ℕ → ℕ
octet_of size framed sample = if framed then 0 else sample % size

abbrev pub part_of : ℕ → Bool → Arrival → ℕ
part_of size framed (At place) = octet_of size framed place.sample
part_of size framed NewSource = octet_of size framed 0
part_of size framed Jump = octet_of size framed 0
part_of size framed WaitsOnProbation = 0
part_of size framed WasGivenUp = 0
part_of size framed IsFar = 0

-- **A payload is laid over the periods of a buffer**, from an octet of its first one on: at each place the first octet
-- that came in time is held. The newest period that was taken is noted, and what the first one says of the path, unless
-- the tick is late.
pub record LaysOver {N : ℕ} (old new : Buffer N) (tick first part : ℕ) (payload : List ℕ) (watched : Bool) : Type 0 where
  pub laid : IsLaid old.pace tick old.store.slots new.store.slots first part payload
  pub everywhere : IsLaidEverywhere old new tick first part payload
  pub stands : (deeds : List Deed) → Stands deeds old.store.slots → Stands (with_periods N old.pace tick first part payload most_periods deeds) new.store.slots
  pub newest : new.newest ≡ newest_after (λ n. is_taken (period_outcome old tick first part (length payload) n)) first old.newest most_periods
  pub pace : new.pace ≡ pace_laid old tick first part (length payload) watched

-- **Each of its periods that is late or doubled counts once.**
abbrev pub with_laid : {N : ℕ} → Buffer N → ℕ → ℕ → ℕ → ℕ → Counts → Counts
with_laid buffer tick first part size counts = record counts {
  late = on counts.late (periods_that (λ n. is_late_one (period_outcome buffer tick first part size n)));
  doubled = on counts.doubled (periods_that (λ n. is_doubled (period_outcome buffer tick first part size n)));
}

-- what is counted of a packet's place: the delay may have become longer for it, by so many periods; a frame may not
-- begin where a period does
abbrev pub placed_counts : Bool → ℕ → ℕ → ℕ → ℕ → Counts → Counts
placed_counts framed sample offset before shift counts = record counts {
  slips_back = on counts.slips_back (back before shift);
  off_the_grid = if framed && not (sample == offset) then on counts.off_the_grid 1 else counts.off_the_grid;
}

-- of another source: what came of the one before is added up
abbrev pub sourced_counts : Bool → Reception → Counts → Counts
sourced_counts was_heard reception counts = if was_heard then record counts {
  new_sources = on counts.new_sources 1;
  received_before = on counts.received_before reception.received;
  missing_before = on counts.missing_before (missing_of reception);
} else counts

-- of a packet's arrival, which leaves the stream so
abbrev pub noted : {N : ℕ} → Arrival → Incoming N → Stream N → Counts
noted (At place) old begun =
    placed_counts old.is_framed place.sample old.stream.track.offset old.stream.buffer.pace.shift begun.buffer.pace.shift old.counts
noted NewSource old begun = sourced_counts (is_some old.stream.sources.heard) old.stream.reception old.counts
noted Jump old begun = record old.counts { jumps = on old.counts.jumps 1 }
noted WaitsOnProbation old begun = old.counts
noted WasGivenUp old begun = old.counts
noted IsFar old begun = old.counts

-- **A packet that is taken: its payload is laid over the periods from its place on.**
pub record LaysPayload {N : ℕ} (old new : Incoming N) (header : Header) (payload : List ℕ) (tick behind : ℕ) : Type 0 where
  pub arrival : Arrival
  pub arrival_is : arrival ≡ arrival_in old.stream header (samples_of N (length payload)) tick behind
  pub begun : Stream N
  pub arrives : Arrives old.stream begun header arrival tick behind
  pub laid : LaysOver begun.buffer new.stream.buffer tick (first_of arrival) (part_of N old.is_framed arrival) payload (behind == 0)
  pub counts : new.counts ≡ with_laid begun.buffer tick (first_of arrival) (part_of N old.is_framed arrival) (length payload) (noted arrival old begun)

-- ---- all of it

-- **What a datagram does to a stream, read at a tick that is late by `behind` periods.**
pub record TakesDatagram {N : ℕ} (old new : Incoming N) (datagram : List ℕ) (tick behind : ℕ) (outcome : Outcome) : Type 0 where
  pub outcome_is : outcome ≡ outcome_in old (packet_of datagram) tick behind
  pub refused : (outcome ≡ Taken → ⊥) → new.counts ≡ with_outcome outcome old.counts
  pub reception : new.stream.reception ≡ reception_in old (packet_of datagram) tick behind
  pub sources : new.stream.sources ≡ sources_in old (packet_of datagram) tick
  pub track : new.stream.track ≡ track_in old (packet_of datagram) tick behind
  pub latest : outcome ≡ Taken → new.stream.heard_at ≡ tick
  pub others : KeepsSettings old new
  pub lays : (packet : Packet) → packet_of datagram ≡ Ok packet → outcome ≡ Taken →
      LaysPayload old new packet.header (slice_range datagram packet.from packet.until) tick behind
