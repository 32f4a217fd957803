-- The 33 octets that carry a frame of parameters (RFC 3551, section 4.5.8.1): four bits 1101, and then the fields one
-- after another, each with its most significant bit first. The four bits and the ratios are five octets, and each block
-- is seven.
use Rattle.std.specs.Prelude.{◌≡◌, ℕ, ◌+◌, ◌*◌, ◌^◌, List, [], ◌∷◌, suc, replicate, slice_index}
use Rattle.trau_params.specs.Fields.{Fields}
use Rattle.trau_params.specs.Widths.{larc_widths, block_widths}
use Rattle.trau_params.specs.Bits260.{values_in}

-- the four bits 1101, as a number
abbrev pub magic : ℕ
magic = 13

-- the number n, followed by values of these widths in bits, from value i on, as one number
unfoldable pub packed_from : ℕ → ℕ → List ℕ → (ℕ → ℕ) → ℕ
packed_from i n [] value = n
packed_from i n (w ∷ ws) value = packed_from (suc i) (n * 2 ^ w + value i) ws value

-- the same from the first value on
abbrev pub packed : ℕ → List ℕ → (ℕ → ℕ) → ℕ
packed n widths value = packed_from 0 n widths value

-- the number of `count` octets from a place on
abbrev pub octets_from : List ℕ → ℕ → ℕ → ℕ
octets_from octets start count = packed 0 (replicate count 8) (λ i. slice_index octets (start + i))

-- the number of the fields of block j
abbrev pub block_number : Fields → ℕ → ℕ
block_number f j = packed 0 block_widths (λ i. slice_index (values_in f j) i)

-- the octets carry the fields
pub record Carries (octets : List ℕ) (f : Fields) : Type 0 where
  pub head : octets_from octets 0 5 ≡ packed magic larc_widths (λ i. slice_index f.larc i)
  pub first : octets_from octets 5 7 ≡ block_number f 0
  pub second : octets_from octets 12 7 ≡ block_number f 1
  pub third : octets_from octets 19 7 ≡ block_number f 2
  pub fourth : octets_from octets 26 7 ≡ block_number f 3
