-- The packet that a datagram is, or the reason why it is none (RFC 3550, section 5.1).
use Rattle.std.specs.Prelude.{ℕ, ◌+◌, ◌-◌, ◌*◌, ◌/◌, ◌%◌, Bool, not, ◌&&◌, if◌then◌else◌, ◌==◌, nat_le, nat_lt, Option, Some, None, Result, Ok, Err, List, length, slice_index}
use Rattle.rtp_packet.specs.declared.header.Header.{Header}
use Rattle.rtp_packet.specs.declared.packet.Packet.{Packet}
use Rattle.rtp_packet.specs.declared.packet.Refusal.{Refusal}
use Rattle.rtp_packet.specs.declared.packet.Refusal.TheVariants.{Short, Version, Control, Cut, Padding, Overlap}

-- numbers of octets from one on, the most significant first
abbrev pub number_of_two : List ℕ → ℕ → ℕ
number_of_two xs at = slice_index xs at * 256 + slice_index xs (at + 1)

abbrev pub number_of_four : List ℕ → ℕ → ℕ
number_of_four xs at = number_of_two xs at * 65536 + number_of_two xs (at + 2)

-- what the first twelve octets say
abbrev pub header_of : List ℕ → Header
header_of xs = record {
  marker = nat_le 128 (slice_index xs 1);
  payload_type = slice_index xs 1 % 128;
  sequence_number = number_of_two xs 2;
  timestamp = number_of_four xs 4;
  source = number_of_four xs 8;
}

-- the first octet of a packet without contributing sources, extension and padding
abbrev pub plain_octet : ℕ
plain_octet = 128

-- The first octet: its two highest bits are the version, the next says whether there is padding, the next whether there
-- is an extension, the last four how many contributing sources of four octets there are.
abbrev pub version_of : List ℕ → ℕ
version_of xs = slice_index xs 0 / 64

abbrev pub has_padding : List ℕ → Bool
has_padding xs = slice_index xs 0 / 32 % 2 == 1

abbrev pub has_extension : List ℕ → Bool
has_extension xs = slice_index xs 0 / 16 % 2 == 1

-- the octets up to the end of the contributing sources
abbrev pub sources_end : List ℕ → ℕ
sources_end xs = 12 + 4 * (slice_index xs 0 % 16)

-- The octet at which the payload begins; None if the datagram ends before that is known. The third and the fourth octet
-- of an extension say how many words of four octets follow them.
abbrev pub payload_from : List ℕ → Option ℕ
payload_from xs =
    if has_extension xs then
    (if nat_lt (length xs) (sources_end xs + 4) then None else Some (sources_end xs + 4 + 4 * number_of_two xs (sources_end xs + 2)))
    else (if nat_lt (length xs) (sources_end xs) then None else Some (sources_end xs))

-- the octets of the padding: the last one says it, and 0 is wrong
abbrev pub padding_of : List ℕ → Option ℕ
padding_of xs =
    if has_padding xs then (let count = slice_index xs (length xs - 1) in if count == 0 then None else Some count)
    else Some 0

-- the payload lies between these two
abbrev pub packet_within : List ℕ → Option ℕ → Option ℕ → Result Packet Refusal
packet_within xs None padding = Err Cut
packet_within xs (Some from) None = Err Padding
packet_within xs (Some from) (Some padding) =
    if nat_lt (length xs) (from + padding) then Err Overlap
    else Ok (record { header = header_of xs; from = from; until = length xs - padding })

-- payload types that are RTCP's packet types without their highest bit
abbrev pub is_control : ℕ → Bool
is_control payload_type = nat_le 64 payload_type && nat_le payload_type 95

unfoldable pub packet_of : List ℕ → Result Packet Refusal
packet_of xs =
    if nat_lt (length xs) 12 then Err Short
    else if not (version_of xs == 2) then Err Version
    else if is_control (header_of xs).payload_type then Err Control
    else packet_within xs (payload_from xs) (padding_of xs)
