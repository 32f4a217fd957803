-- The bits of fields, each least significant bit first.
use Rattle.std.specs.Prelude.{ℕ, ◌/◌, ◌%◌, ◌^◌, List, [], ◌∷◌, ◌++◌, map}
use Rattle.std.specs.List.{range_with_len}

-- the low bits of a value: bit t is floor(value / 2^t) mod 2
unfoldable pub low_bits : ℕ → ℕ → List ℕ
low_bits width value = map (λ t. value / 2 ^ t % 2) (range_with_len 0 width)

-- the bits of fields with these widths and values, one field after the other
abbrev pub field_bits : List ℕ → List ℕ → List ℕ
field_bits [] values = []
field_bits (width ∷ widths) [] = []
field_bits (width ∷ widths) (value ∷ values) = low_bits width value ++ field_bits widths values
