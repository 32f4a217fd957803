-- One block by itself.
use Rattle.std.specs.Prelude.{ℕ, List, ◌∷◌}
use Rattle.trau_params.specs.declared.block.Block.{Block}
use Rattle.trau_params.specs.Widths.{block_widths}
use Rattle.trau_params.specs.FieldBits.{field_bits}

-- its fields: lag, gain, grid, block maximum, pulses
abbrev pub values_of : Block → List ℕ
values_of b = b.nc ∷ b.bc ∷ b.mc ∷ b.xmaxc ∷ b.xmc

-- its 56 bits
abbrev pub bits_of_block : Block → List ℕ
bits_of_block b = field_bits block_widths (values_of b)
