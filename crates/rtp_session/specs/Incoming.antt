-- Which datagrams may change what is played (RFC 3550, appendix A.1 and section 8.2, and this project's profile).
use Rattle.std.specs.Prelude.{◌≡◌, ◌⊎◌, ◌<◌, ◌≤◌, ℕ, min, Bool, true, if◌then◌else◌, Some, None, List}
use Rattle.rtp_packet.specs.declared.header.Header.{Header}
use Rattle.rtp_packet.specs.declared.packet.Packet.{Packet}
use Rattle.rtp_packet.specs.Layout.{IsPacket}
use Rattle.rtp_packet.specs.Reception.{most_jitter, reception_home}
use Rattle.rtp_stream.specs.Places.{period_samples}
use Rattle.rtp_stream.specs.Sources.{sources_home, brings_the_next}
use Rattle.rtp_stream.specs.Stream.{most_depth, track_home, is_still, BeginsAt}
use Rattle.rtp_stream.specs.declared.stream.Stream.{Stream}
use Rattle.rtp_session.specs.declared.incoming.Incoming.{Incoming}
use Rattle.rtp_session.specs.Counts.{no_counts}

-- Its source is the one that is heard; or none is heard yet; or it is the second packet in a row of another source
-- while that one is still.
abbrev pub IsHeard : {N : ℕ} → Stream N → Header → ℕ → Type 0
IsHeard stream header tick =
    (stream.sources.heard ≡ Some header.source) ⊎ ((stream.sources.heard ≡ None) ⊎
    ((brings_the_next stream.sources.candidate header.source header.sequence_number ≡ true)
    × (is_still stream.depth stream.heard_at stream.buffer.pace stream.buffer.newest tick ≡ true)))

-- **A datagram may change what is played only if it is a packet of the session's payload type whose source is heard, or
-- while none is heard.**
pub record IsAdmitted {N : ℕ} (incoming : Incoming N) (datagram : List ℕ) (tick : ℕ) : Type 0 where
  pub packet : Packet
  pub is_packet : IsPacket datagram packet
  pub payload_type : packet.header.payload_type ≡ incoming.payload_type
  pub source : IsHeard incoming.stream packet.header tick

-- nothing has changed but counts, which source is on probation, and what came of the source that is heard
abbrev pub IsUntouched : {N : ℕ} → Incoming N → Incoming N → Type 0
IsUntouched old new = new ≡ record old {
  counts = new.counts;
  stream = record old.stream {
    sources = record old.stream.sources { candidate = new.stream.sources.candidate };
    reception = new.stream.reception;
  };
}

-- what a session began with stays: the payload type, whether a period is a frame, and the depth
abbrev pub KeepsSettings : {N : ℕ} → Incoming N → Incoming N → Type 0
KeepsSettings old new = new ≡ record old {
  counts = new.counts;
  stream = record old.stream {
    sources = new.stream.sources;
    reception = new.stream.reception;
    track = new.stream.track;
    heard_at = new.stream.heard_at;
    buffer = new.stream.buffer;
  };
}

-- nothing has changed of what is played, nor the newest packet, from which places are counted
pub record PlaysTheSame {N : ℕ} (old new : Stream N) : Type 0 where
  pub buffer : new.buffer ≡ old.buffer
  pub heard_at : new.heard_at ≡ old.heard_at
  pub newest : new.track.newest ≡ old.track.newest

-- before its first packet: no source is heard, nothing waits, and nothing is counted
pub record BeginsSession {N : ℕ} (payload_type : ℕ) (framed : Bool) (depth : ℕ) (incoming : Incoming N) : Type 0 where
  pub payload_type_is : incoming.payload_type ≡ payload_type
  pub framed_is : incoming.is_framed ≡ framed
  pub counts : incoming.counts ≡ no_counts
  pub depth_is : incoming.stream.depth ≡ min depth most_depth
  pub sources : incoming.stream.sources ≡ sources_home
  pub track : incoming.stream.track ≡ track_home (if framed then 80 else 0) 0
  pub reception : incoming.stream.reception ≡ reception_home 0 0
  pub heard_at : incoming.stream.heard_at ≡ 0
  pub begins : BeginsAt incoming.stream (min depth most_depth) 0

-- numbers that a stream never exceeds
pub record IsSound {N : ℕ} (stream : Stream N) : Type 0 where
  pub smooth : stream.reception.jitter ≤ most_jitter
  pub sample : stream.track.newest.place.sample < period_samples
  pub offset : stream.track.offset < period_samples
