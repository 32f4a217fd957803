-- The positions of the fields among the 260 bits of a frame.
use Rattle.std.specs.Prelude.{◌≡◌, ℕ, ◌+◌, ◌*◌, ◌/◌, ◌%◌, ◌^◌, ◌<◌, List, [], sum, take, slice_index, slice_index_or}
use Rattle.trau_params.specs.declared.params.Params.{Params}
use Rattle.trau_params.specs.Widths.{larc_widths, nc_width, bc_width, mc_width, xmaxc_width, xmc_width, block_size, nc_offset, bc_offset, mc_offset}
use Rattle.trau_params.specs.Widths.{xmaxc_offset, xmc_offset}

-- a field is at an offset: its bit t, floor(value / 2^t) mod 2, is at offset + t
abbrev pub StandsAt : List ℕ → ℕ → ℕ → ℕ → Type 0
StandsAt bits offset width value = (t : ℕ) → t < width → slice_index bits (offset + t) ≡ value / 2 ^ t % 2

-- the offset of each field is the sum of the widths of the fields before it
pub record FieldsStand (p : Params) (bits : List ℕ) : Type 0 where
  pub larc : (i : ℕ) → i < 8 → StandsAt bits (sum (take i larc_widths)) (slice_index larc_widths i) (slice_index p.larc i)
  pub nc : (j : ℕ) → j < 4 → StandsAt bits (nc_offset + block_size * j) nc_width (slice_index p.nc j)
  pub bc : (j : ℕ) → j < 4 → StandsAt bits (bc_offset + block_size * j) bc_width (slice_index p.bc j)
  pub mc : (j : ℕ) → j < 4 → StandsAt bits (mc_offset + block_size * j) mc_width (slice_index p.mc j)
  pub xmaxc : (j : ℕ) → j < 4 → StandsAt bits (xmaxc_offset + block_size * j) xmaxc_width (slice_index p.xmaxc j)
  pub xmc : (j i : ℕ) → j < 4 → i < 13 →
      StandsAt bits (xmc_offset + block_size * j + xmc_width * i) xmc_width (slice_index (slice_index_or p.xmc j []) i)
