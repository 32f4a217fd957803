-- The four channels of 16 kbit/s in a time slot of 64 kbit/s (CCITT I.460).
use Rattle.std.specs.Prelude.{◌≡◌, ℕ, ◌-◌, ◌*◌, ◌<◌, List, [], ◌∷◌, All}
use Rattle.std.specs.List.{flat_map}
use Rattle.std.specs.Int.{bit_at}
use Rattle.trau_bits.specs.Bits.{bits_of, octets_of}

-- the bits 2j and 2j + 1 of an octet, bit 0 the most significant
abbrev pub bits_for : ℕ → ℕ → List ℕ
bits_for j octet = bit_at octet (7 - 2 * j) ∷ bit_at octet (6 - 2 * j) ∷ []

-- the bits of channel j, 0 to 3: two of each octet of the slot, in order
unfoldable pub subchannel : ℕ → List ℕ → List ℕ
subchannel j octets = flat_map (bits_for j) octets

-- the channel's octets, one for each four of the slot
abbrev pub channel : ℕ → List ℕ → List ℕ
channel j octets = octets_of (subchannel j octets)

-- the octets of a slot whose channels have the bits of these four lists of octets
pub record IsMerged (octets : List ℕ) (channels : ℕ → List ℕ) : Type 0 where
  pub are_octets : All (λ octet. octet < 256) octets
  pub carries : (j : ℕ) → j < 4 → subchannel j octets ≡ bits_of (channels j)
