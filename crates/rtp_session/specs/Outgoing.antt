-- What an outgoing datagram carries (RFC 3550, section 5.1; RFC 3551, section 4.1).
use Rattle.std.specs.Prelude.{◌≡◌, ◌<◌, ℕ, ◌+◌, ◌*◌, ◌%◌, ◌^◌, Bool, true, false, not, ◌&&◌, Ok, List, length, drop}
use Rattle.rtp_packet.specs.declared.header.Header.{Header}
use Rattle.rtp_packet.specs.Packet.{packet_of, is_control, number_of_two, number_of_four}
use Rattle.rtp_stream.specs.Places.{period_samples}
use Rattle.rtp_session.specs.declared.outgoing.Outgoing.{Outgoing}

-- before the first packet: number, time stamp and source are of ten random octets
abbrev pub outgoing_home : ℕ → List ℕ → Outgoing
outgoing_home payload_type random = record {
  payload_type = payload_type;
  after_gap = true;
  number = number_of_two random 0;
  timestamp = number_of_four random 2;
  source = number_of_four random 6;
  packets = 0;
  octets = 0;
}

-- The header of the packet for a period: the next number, and a time stamp that counts periods also where nothing is
-- sent. The marker says that it is the first speech after a gap.
abbrev pub header_at : Outgoing → ℕ → Bool → Header
header_at outgoing tick speech = record {
  marker = outgoing.after_gap && speech;
  payload_type = outgoing.payload_type;
  sequence_number = outgoing.number;
  timestamp = (outgoing.timestamp + tick * period_samples % 2 ^ 32) % 2 ^ 32;
  source = outgoing.source;
}

-- after it
abbrev pub sent : Outgoing → ℕ → Bool → Outgoing
sent outgoing octets speech = record outgoing {
  after_gap = not speech;
  number = (outgoing.number + 1) % 2 ^ 16;
  packets = (outgoing.packets + 1) % 2 ^ 32;
  octets = (outgoing.octets + octets) % 2 ^ 32;
}

-- nothing was sent in a period
abbrev pub left_out : Outgoing → Outgoing
left_out outgoing = record outgoing { after_gap = true }

-- **Time is given up**: stamps go on as if its periods had passed.
abbrev pub gone_on : ℕ → Outgoing → Outgoing
gone_on periods outgoing = record outgoing { timestamp = (outgoing.timestamp + periods * period_samples % 2 ^ 32) % 2 ^ 32; after_gap = true }

-- its payload type has seven bits, and isn't one that RTCP on the same port seems to have
pub record IsMedia (payload_type : ℕ) : Type 0 where
  pub seven_bits : payload_type < 128
  pub no_control : is_control payload_type ≡ false

-- **Whoever reads the datagram gets this header and this payload.**
pub record Carries (datagram : List ℕ) (header : Header) (payload : List ℕ) : Type 0 where
  pub read : packet_of datagram ≡ Ok (record { header = header; from = 12; until = length datagram })
  pub payload_is : drop 12 datagram ≡ payload
