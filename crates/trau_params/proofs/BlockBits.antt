-- The bits of one block of a frame.
use Rattle.std.proofs.Common.{ℕ, List}
use Rattle.trau_params.specs.declared.params.Params.{Params}
use Rattle.trau_params.specs.Widths.{block_widths}
use Rattle.trau_params.specs.FieldBits.{field_bits}
use Rattle.trau_params.specs.Bits260.{block_values}

-- those of block j
abbrev pub block_bits : Params → ℕ → List ℕ
block_bits p j = field_bits block_widths (block_values p j)
