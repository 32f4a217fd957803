-- The 260 bits of a frame of parameters (GSM 06.10, table 1.1): the fields in their order.
use Rattle.std.specs.Prelude.{◌≡◌, ℕ, List, [], ◌∷◌, ◌++◌, slice_index, slice_index_or}
use Rattle.std.specs.List.{range_with_len, flat_map}
use Rattle.trau_params.specs.declared.params.Params.{Params}
use Rattle.trau_params.specs.Fields.{Fields, fields_of}
use Rattle.trau_params.specs.Widths.{larc_widths, block_widths}
use Rattle.trau_params.specs.FieldBits.{field_bits}

-- the values of block j: lag, gain, grid, block maximum, pulses
abbrev pub values_in : Fields → ℕ → List ℕ
values_in f j =
    slice_index f.nc j ∷ slice_index f.bc j ∷ slice_index f.mc j ∷ slice_index f.xmaxc j ∷ slice_index_or f.xmc j []

-- the bits of fields: the eight LARc, then the four blocks
unfoldable pub bits260 : Fields → List ℕ
bits260 f = field_bits larc_widths f.larc ++ flat_map (λ j. field_bits block_widths (values_in f j)) (range_with_len 0 4)

-- the values of block j of a frame, and the bits of the frame
abbrev pub block_values : Params → ℕ → List ℕ
block_values p j = values_in (fields_of p) j

unfoldable pub bits260_of : Params → List ℕ
bits260_of p = bits260 (fields_of p)

-- the frames agree in every field
pub record SameFields (p q : Params) : Type 0 where
  pub larc : p.larc ≡ q.larc
  pub nc : p.nc ≡ q.nc
  pub bc : p.bc ≡ q.bc
  pub mc : p.mc ≡ q.mc
  pub xmaxc : p.xmaxc ≡ q.xmaxc
  pub xmc : p.xmc ≡ q.xmc
