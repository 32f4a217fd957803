-- The bits of a list of octets, and the octets of a list of bits, as GSM 08.60 counts them: bit 0 is the most
-- significant bit of the first octet.
use Rattle.std.specs.Prelude.{ℕ, ◌+◌, ◌-◌, ◌*◌, ◌/◌, ◌%◌, ◌^◌, ◌<◌, List, length, map, sum, slice_index, All}
use Rattle.std.specs.List.{range_with_len}
use Rattle.std.specs.Int.{bit_at}

-- bit i: in octet i / 8, counted from the most significant of its eight
abbrev pub bit_of : List ℕ → ℕ → ℕ
bit_of bytes i = bit_at (slice_index bytes (i / 8)) (7 - i % 8)

-- all bits of the octets, in order
unfoldable pub bits_of : List ℕ → List ℕ
bits_of bytes = map (bit_of bytes) (range_with_len 0 (8 * length bytes))

-- each element is 0 or 1
abbrev pub AreBits : List ℕ → Type 0
AreBits bits = All (λ bit. bit < 2) bits

-- the octet of the eight bits from `first` on, most significant first
unfoldable pub octet_at : List ℕ → ℕ → ℕ
octet_at bits first = sum (map (λ j. slice_index bits (first + j) * 2 ^ (7 - j)) (range_with_len 0 8))

-- all octets of the bits, in order
unfoldable pub octets_of : List ℕ → List ℕ
octets_of bits = map (λ k. octet_at bits (8 * k)) (range_with_len 0 (length bits / 8))
