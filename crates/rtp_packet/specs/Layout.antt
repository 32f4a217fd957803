-- A packet by its parts, in the order of the figure in RFC 3550, section 5.1.
use Rattle.std.specs.Prelude.{◌≡◌, ℕ, ◌+◌, ◌-◌, ◌*◌, ◌%◌, ◌<◌, Bool, true, false, List, [], ◌++◌, length, slice_index}
use Rattle.rtp_packet.specs.declared.packet.Packet.{Packet}
use Rattle.rtp_packet.specs.Packet.{number_of_two, header_of, version_of, has_padding, has_extension, is_control}

pub record Parts : Type 0 where
  pub head : List ℕ
  pub sources : List ℕ
  pub extension : List ℕ
  pub payload : List ℕ
  pub padding : List ℕ

-- the octets
abbrev pub joined : Parts → List ℕ
joined parts = parts.head ++ (parts.sources ++ (parts.extension ++ (parts.payload ++ parts.padding)))

-- An extension, if there is one: four octets, the third and the fourth of which say how many words of four octets
-- follow, and these.
abbrev pub IsExtension : Bool → List ℕ → Type 0
IsExtension false part = part ≡ []
IsExtension true part = length part ≡ 4 + 4 * number_of_two part 2

-- padding, if there is some: its last octet says how many octets it has
abbrev pub IsPadding : Bool → List ℕ → Type 0
IsPadding false part = part ≡ []
IsPadding true part = (0 < length part) × (slice_index part (length part - 1) ≡ length part)

-- the parts are laid out as the first of them says, and the packet is theirs
pub record AreParts (parts : Parts) (p : Packet) : Type 0 where
  pub head : length parts.head ≡ 12
  pub version : version_of parts.head ≡ 2
  pub says : p.header ≡ header_of parts.head
  pub media : is_control p.header.payload_type ≡ false
  pub sources : length parts.sources ≡ 4 * (slice_index parts.head 0 % 16)
  pub extension : IsExtension (has_extension parts.head) parts.extension
  pub padding : IsPadding (has_padding parts.head) parts.padding
  pub from : p.from ≡ length parts.head + length parts.sources + length parts.extension
  pub until : p.until ≡ p.from + length parts.payload

-- **The octets are this packet**: they are parts in this order.
pub record IsPacket (octets : List ℕ) (p : Packet) : Type 0 where
  pub parts : Parts
  pub joined_is : octets ≡ joined parts
  pub laid_out : AreParts parts p
