-- The fields of a frame as plain lists, and those that 260 bits carry (GSM 06.10, table 1.1).
use Rattle.std.specs.Prelude.{ℕ, ◌+◌, ◌*◌, ◌^◌, List, map, sum, take, slice_index}
use Rattle.std.specs.List.{range_with_len}
use Rattle.trau_params.specs.declared.params.Params.{Params}
use Rattle.trau_params.specs.Widths.{larc_widths, nc_width, bc_width, mc_width, xmaxc_width, xmc_width, block_size, nc_offset, bc_offset, mc_offset}
use Rattle.trau_params.specs.Widths.{xmaxc_offset, xmc_offset}

-- the fields: LARc 1 to 8, and the lag, gain, grid, block maximum and thirteen pulses of each of the four blocks
pub record Fields : Type 0 where
  pub larc : List ℕ
  pub nc : List ℕ
  pub bc : List ℕ
  pub mc : List ℕ
  pub xmaxc : List ℕ
  pub xmc : List (List ℕ)

-- the fields of a frame of parameters
abbrev pub fields_of : Params → Fields
fields_of p = record { larc = p.larc; nc = p.nc; bc = p.bc; mc = p.mc; xmaxc = p.xmaxc; xmc = p.xmc }

-- the number in `width` bits from `offset` on, least significant first
unfoldable pub number_at : List ℕ → ℕ → ℕ → ℕ
number_at bits offset width = sum (map (λ t. slice_index bits (offset + t) * 2 ^ t) (range_with_len 0 width))

-- one field of each of the four blocks; `offset` is its offset in the first block, and the blocks follow each other
abbrev pub block_numbers : List ℕ → ℕ → ℕ → List ℕ
block_numbers bits offset width = map (λ j. number_at bits (offset + block_size * j) width) (range_with_len 0 4)

-- the thirteen pulses from `offset` on
abbrev pub pulse_numbers : List ℕ → ℕ → List ℕ
pulse_numbers bits offset = map (λ i. number_at bits (offset + xmc_width * i) xmc_width) (range_with_len 0 13)

-- the fields that 260 bits carry
unfoldable pub fields_in : List ℕ → Fields
fields_in bits = record {
  larc = map (λ i. number_at bits (sum (take i larc_widths)) (slice_index larc_widths i)) (range_with_len 0 8);
  nc = block_numbers bits nc_offset nc_width;
  bc = block_numbers bits bc_offset bc_width;
  mc = block_numbers bits mc_offset mc_width;
  xmaxc = block_numbers bits xmaxc_offset xmaxc_width;
  xmc = map (λ j. pulse_numbers bits (xmc_offset + block_size * j)) (range_with_len 0 4);
}
