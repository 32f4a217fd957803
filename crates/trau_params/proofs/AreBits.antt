-- For crates above: the bits of a value are bits (`AreBits-low_bits`), and so are the 260 bits of fields
-- (`AreBits-bits260`).
use Rattle.std.proofs.Common.{ℕ, ◌/◌, ◌%◌, ◌+◌, ◌^◌, ◌<◌, zero, suc, List, [], ◌∷◌, arith}
use Rattle.std.specs.List.{range_with_len, flat_map}
use Rattle.std.proofs.lemmas.List.Elements.{All-nil, All-append, All-map}
use Rattle.trau_bits.specs.Bits.{AreBits}
use Rattle.trau_params.specs.declared.params.Params.{Params}
use Rattle.trau_params.specs.Fields.{Fields, fields_of}
use Rattle.trau_params.specs.Widths.{larc_widths, block_widths}
use Rattle.trau_params.specs.FieldBits.{low_bits, field_bits}
use Rattle.trau_params.specs.Bits260.{bits260, bits260_of, values_in}

-- of one value, of several fields, of parts, and of a frame
pub AreBits-low_bits : (width value : ℕ) → AreBits (low_bits width value)
unfolding low_bits
AreBits-low_bits width value =
    All-map (λ b. b < 2) (λ t. value / 2 ^ t % 2) (range_with_len 0 width) (λ k d h. omega arith)

AreBits-field_bits : (widths values : List ℕ) → AreBits (field_bits widths values)
AreBits-field_bits [] values = All-nil (λ b. b < 2)
AreBits-field_bits (w ∷ ws) [] = All-nil (λ b. b < 2)
AreBits-field_bits (w ∷ ws) (v ∷ vs) = All-append (λ b. b < 2) _ _ (AreBits-low_bits w v) (AreBits-field_bits ws vs)

AreBits-flat_map : (f : ℕ → List ℕ) (a n : ℕ) → ((k : ℕ) → AreBits (f k)) → AreBits (flat_map f (range_with_len a n))
AreBits-flat_map f a zero h = All-nil (λ b. b < 2)
AreBits-flat_map f a (suc n) h = All-append (λ b. b < 2) _ _ (h a) (AreBits-flat_map f (a + 1) n h)

pub AreBits-bits260 : (f : Fields) → AreBits (bits260 f)
unfolding bits260
AreBits-bits260 f =
    All-append (λ b. b < 2) _ _ (AreBits-field_bits larc_widths f.larc)
    (AreBits-flat_map (λ j. field_bits block_widths (values_in f j)) 0 4 (λ j. AreBits-field_bits block_widths (values_in f j)))

pub AreBits-bits260_of : (p : Params) → AreBits (bits260_of p)
unfolding bits260_of
AreBits-bits260_of p = AreBits-bits260 (fields_of p)
