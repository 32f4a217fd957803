-- A datagram that is a packet, and a payload that is laid.
use Rattle.std.proofs.Common.{◌≡◌, ℕ, List, length, refl, sym, ap, subst, ◌∙◌, ◌-◌}
use Rattle.std.specs.Prelude.{Bool, Result, Ok, slice_range, ◌==◌}
use Rattle.rtp_packet.specs.declared.header.Header.{Header}
use Rattle.rtp_packet.specs.declared.packet.Packet.{Packet}
use Rattle.rtp_packet.specs.declared.packet.Refusal.{Refusal}
use Rattle.rtp_packet.specs.declared.reception.Reception.{Reception}
use Rattle.rtp_packet.specs.Packet.{packet_of}
use Rattle.rtp_buffer.specs.declared.buffer.Buffer.{Buffer}
use Rattle.rtp_buffer.specs.Watch.{on}
use Rattle.rtp_stream.specs.Payload.{period_outcome, is_late_one, is_doubled, periods_that}
use Rattle.rtp_stream.specs.declared.source.Verdict.{Verdict}
use Rattle.rtp_stream.specs.declared.source.Verdict.TheVariants.{Heard, Begins, OnProbation}
use Rattle.rtp_stream.specs.declared.track.Placed.{Placed}
use Rattle.rtp_stream.specs.declared.track.Placed.TheVariants as placed
use Rattle.rtp_stream.specs.declared.stream.Stream.{Stream}
use Rattle.rtp_stream.specs.declared.stream.Arrival.{Arrival}
use Rattle.rtp_stream.specs.declared.stream.Arrival.TheVariants.{At, NewSource, Jump, OnProbation as WaitsOnProbation, GivenUp, Far}
use Rattle.rtp_stream.specs.Stream.{arrival_of}
use Rattle.rtp_session.specs.declared.counts.Counts.{Counts}
use Rattle.rtp_session.specs.declared.incoming.Incoming.{Incoming}
use Rattle.rtp_session.specs.declared.incoming.Outcome.{Outcome}
use Rattle.rtp_session.specs.declared.incoming.Outcome.TheVariants.{Taken}
use Rattle.rtp_session.specs.Counts.{with_outcome}
use Rattle.rtp_session.specs.Incoming.{KeepsSettings}
use Rattle.rtp_session.specs.Datagram.{refused_by, samples_of, arrival_in, packet_outcome, outcome_in, received_by, received_unless, reception_in, sources_unless, sources_in, track_unless, track_in, Arrives, first_of, part_of, LaysOver, with_laid, noted, LaysPayload, TakesDatagram}

-- a new source is one that begins
pub begins_if : {B : Type 0} → (verdict : Verdict) (arrival : Arrival) (place : Placed) → (verdict ≡ OnProbation → arrival ≡ WaitsOnProbation) →
    (verdict ≡ Begins → B) → (verdict ≡ Heard → arrival ≡ arrival_of place) → arrival ≡ NewSource → B
begins_if Begins arrival place waits begins heard e = begins refl
begins_if OnProbation arrival place waits begins heard e = let w : arrival ≡ WaitsOnProbation = waits refl in cc
begins_if Heard arrival (placed.At p) waits begins heard e = let w : arrival ≡ At p = heard refl in cc
begins_if Heard arrival placed.Jump waits begins heard e = let w : arrival ≡ Jump = heard refl in cc
begins_if Heard arrival placed.GivenUp waits begins heard e = let w : arrival ≡ GivenUp = heard refl in cc
begins_if Heard arrival placed.Far waits begins heard e = let w : arrival ≡ Far = heard refl in cc

-- what came of the source, by each verdict
pub received_if : {N : ℕ} → (verdict : Verdict) (stream : Stream N) (header : Header) (tick behind : ℕ) (r : Reception) →
    (verdict ≡ OnProbation → r ≡ received_by OnProbation stream header tick behind) →
    (verdict ≡ Begins → r ≡ received_by Begins stream header tick behind) → (verdict ≡ Heard → r ≡ received_by Heard stream header tick behind) →
    r ≡ received_by verdict stream header tick behind
received_if OnProbation stream header tick behind r waits begins heard = waits refl
received_if Begins stream header tick behind r waits begins heard = begins refl
received_if Heard stream header tick behind r waits begins heard = heard refl

-- what holds by each verdict
pub by_verdict : {A : Type 0} → (f : Verdict → A) (verdict : Verdict) (r : A) → (verdict ≡ OnProbation → r ≡ f OnProbation) →
    (verdict ≡ Begins → r ≡ f Begins) → (verdict ≡ Heard → r ≡ f Heard) → r ≡ f verdict
by_verdict f OnProbation r waits begins heard = waits refl
by_verdict f Begins r waits begins heard = begins refl
by_verdict f Heard r waits begins heard = heard refl

-- what stays in several steps
abbrev with : {N : ℕ} → Incoming N → Incoming N → Incoming N
with old new = record old {
  counts = new.counts;
  stream = record old.stream {
    sources = new.stream.sources;
    reception = new.stream.reception;
    track = new.stream.track;
    heard_at = new.stream.heard_at;
    buffer = new.stream.buffer;
  };
}

pub kept_if : {N : ℕ} → (old new same : Incoming N) → new ≡ same → with old same ≡ same → KeepsSettings old new
kept_if {N} old new same is kept = is ∙ sym kept ∙ ap (λ (x : Incoming N). with old x) (sym is)

pub kept_refused : {N : ℕ} → (old arrived new : Incoming N) (counts : Counts) → KeepsSettings old arrived → new ≡ record arrived { counts = counts } →
    KeepsSettings old new
kept_refused {N} old arrived new counts first second =
    kept_if old new (record (with old arrived) { counts = counts }) (second ∙ ap (λ (x : Incoming N). record x { counts = counts }) first) refl

pub kept_unplayed : {N : ℕ} → (old counted new : Incoming N) (counts : Counts) (reception : Reception) →
    counted ≡ record old { stream = record old.stream { reception = reception } } → new ≡ record counted { counts = counts } → KeepsSettings old new
kept_unplayed {N} old counted new counts reception first second =
    kept_if old new (record old { counts = counts; stream = record old.stream { reception = reception } })
    (second ∙ ap (λ (x : Incoming N). record x { counts = counts }) first) refl

abbrev laid_with : {N : ℕ} → Incoming N → Incoming N → Incoming N
laid_with before new = record before {
  counts = record before.counts { late = new.counts.late; doubled = new.counts.doubled };
  stream = record before.stream { buffer = new.stream.buffer };
}

pub kept_laid : {N : ℕ} → (old arrived before new : Incoming N) → KeepsSettings old arrived → before ≡ record arrived { counts = before.counts } →
    new ≡ laid_with before new → KeepsSettings old new
kept_laid {N} old arrived before new first second third =
    kept_if old new (laid_with (record (with old arrived) { counts = before.counts }) new)
    (third ∙ ap (λ (x : Incoming N). laid_with x new) (second ∙ ap (λ (x : Incoming N). record x { counts = before.counts }) first)) refl

-- what is counted of a payload that was laid
pub counted_laid : {N : ℕ} → (buffer : Buffer N) (tick first part same size late doubled : ℕ) (counts : Counts) → same ≡ part →
    late ≡ periods_that (λ n. is_late_one (period_outcome buffer tick first same size n)) →
    doubled ≡ periods_that (λ n. is_doubled (period_outcome buffer tick first same size n)) →
    record counts { late = on counts.late late; doubled = on counts.doubled doubled } ≡ with_laid buffer tick first part size counts
counted_laid buffer tick first part same size late doubled counts part_is late_is doubled_is =
    ap (λ (x : ℕ). record counts { late = on counts.late x; doubled = on counts.doubled doubled }) late_is
    ∙ ap (λ (x : ℕ). record counts {
      late = on counts.late (periods_that (λ n. is_late_one (period_outcome buffer tick first same size n)));
      doubled = on counts.doubled x;
    }) doubled_is
    ∙ ap (λ (p : ℕ). with_laid buffer tick first p size counts) part_is

pub laid_by : {N : ℕ} → (old arrived before new : Incoming N) (header : Header) (payload : List ℕ) (tick behind : ℕ) (arrival same : Arrival) →
    arrival ≡ same → arrival ≡ arrival_in old.stream header (samples_of N (length payload)) tick behind →
    Arrives old.stream arrived.stream header arrival tick behind → before.stream ≡ arrived.stream → before.is_framed ≡ old.is_framed →
    before.counts ≡ noted same old arrived.stream →
    LaysOver before.stream.buffer new.stream.buffer tick (first_of same) (part_of N before.is_framed same) payload (behind == 0) →
    new.counts ≡ with_laid before.stream.buffer tick (first_of same) (part_of N before.is_framed same) (length payload) before.counts →
    LaysPayload old new header payload tick behind
laid_by {N} old arrived before new header payload tick behind arrival same same_is arrival_is arrives stream framed noted_is laid counted = record {
  arrival = arrival;
  arrival_is = arrival_is;
  begun = before.stream;
  arrives = subst (λ (s : Stream N). Arrives old.stream s header arrival tick behind) (sym stream) arrives;
  laid =
      subst (λ (a : Arrival). LaysOver before.stream.buffer new.stream.buffer tick (first_of a) (part_of N old.is_framed a) payload (behind == 0))
      (sym same_is)
      (subst (λ (f : Bool). LaysOver before.stream.buffer new.stream.buffer tick (first_of same) (part_of N f same) payload (behind == 0)) framed laid);
  counts =
      subst (λ (a : Arrival). new.counts ≡ with_laid before.stream.buffer tick (first_of a) (part_of N old.is_framed a) (length payload)
      (noted a old before.stream)) (sym same_is)
      (subst (λ (s : Stream N). new.counts ≡ with_laid before.stream.buffer tick (first_of same) (part_of N old.is_framed same) (length payload)
      (noted same old s)) (sym stream)
      (subst (λ (k : Counts). new.counts ≡ with_laid before.stream.buffer tick (first_of same) (part_of N old.is_framed same) (length payload) k) noted_is
      (subst (λ (f : Bool). new.counts ≡ with_laid before.stream.buffer tick (first_of same) (part_of N f same) (length payload) before.counts) framed
      counted)));
}

abbrev ok : Packet → Result Packet Refusal
ok p = Ok p

same_packet : (p q : Packet) → ok p ≡ ok q → p ≡ q
same_packet p q e = cc

-- a datagram that is a packet with this payload
pub packet_taken : {N : ℕ} → (old new : Incoming N) (datagram payload : List ℕ) (packet : Packet) (tick behind : ℕ) (outcome : Outcome) →
    packet_of datagram ≡ Ok packet → payload ≡ slice_range datagram packet.from packet.until → length payload ≡ packet.until - packet.from →
    outcome ≡ packet_outcome old packet.header (length payload) tick behind → ((outcome ≡ Taken → ⊥) → new.counts ≡ with_outcome outcome old.counts) →
    new.stream.reception ≡ received_unless (refused_by old packet.header.payload_type (length payload)) old.stream packet.header tick behind →
    new.stream.sources ≡ sources_unless (refused_by old packet.header.payload_type (length payload)) old.stream packet.header tick →
    new.stream.track ≡ track_unless (refused_by old packet.header.payload_type (length payload)) old.stream packet.header (samples_of N (length payload))
    tick behind →
    (outcome ≡ Taken → new.stream.heard_at ≡ tick) → KeepsSettings old new → (outcome ≡ Taken → LaysPayload old new packet.header payload tick behind) →
    TakesDatagram old new datagram tick behind outcome
packet_taken {N} old new datagram payload packet tick behind outcome is payload_is size outcome_is refused reception sources track latest others lays = record {
  outcome_is =
      outcome_is ∙ ap (λ (n : ℕ). packet_outcome old packet.header n tick behind) size
      ∙ ap (λ (r : Result Packet Refusal). outcome_in old r tick behind) (sym is);
  refused = refused;
  reception =
      reception
      ∙ ap (λ (n : ℕ). received_unless (refused_by old packet.header.payload_type n) old.stream packet.header tick behind) size
      ∙ ap (λ (r : Result Packet Refusal). reception_in old r tick behind) (sym is);
  sources =
      sources
      ∙ ap (λ (n : ℕ). sources_unless (refused_by old packet.header.payload_type n) old.stream packet.header tick) size
      ∙ ap (λ (r : Result Packet Refusal). sources_in old r tick) (sym is);
  track =
      track
      ∙ ap (λ (n : ℕ). track_unless (refused_by old packet.header.payload_type n) old.stream packet.header (samples_of N n) tick behind) size
      ∙ ap (λ (r : Result Packet Refusal). track_in old r tick behind) (sym is);
  latest = latest;
  others = others;
  lays = λ other other_is taken.
      subst (λ (p : Packet). LaysPayload old new p.header (slice_range datagram p.from p.until) tick behind) (same_packet packet other (sym is ∙ other_is))
      (subst (λ (xs : List ℕ). LaysPayload old new packet.header xs tick behind) payload_is (lays taken));
}
