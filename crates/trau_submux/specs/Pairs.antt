-- Two bits of each of four octets, by arithmetic.
use Rattle.std.specs.Prelude.{ℕ, ◌+◌, ◌-◌, ◌*◌, ◌/◌, ◌%◌, ◌^◌}

-- an octet's two bits for channel j, as a number below 4
abbrev pub pair_at : ℕ → ℕ → ℕ
pair_at j octet = octet / 2 ^ (6 - 2 * j) % 4

-- the octet of four pairs of bits
abbrev pub four_pairs : ℕ → ℕ → ℕ → ℕ → ℕ
four_pairs a b c d = a * 64 + b * 16 + c * 4 + d

-- the octet of the pairs of four octets
abbrev pub gathered : ℕ → ℕ → ℕ → ℕ → ℕ → ℕ
gathered j a b c d = four_pairs (pair_at j a) (pair_at j b) (pair_at j c) (pair_at j d)
