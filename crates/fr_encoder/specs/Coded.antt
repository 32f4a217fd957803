-- The encoder's structs as plain fields.
use Rattle.std.specs.Prelude.{ℤ, List}
use Rattle.trau_params.specs.declared.params.Params.{Params}
use Rattle.fr_encoder.specs.declared.block.CodedBlock.{CodedBlock as BlockStruct}
use Rattle.fr_encoder.specs.Blocks.{CodedBlock, BlockFields}

-- the codes of a block, and its maximum
abbrev pub codes_of : BlockStruct → CodedBlock
codes_of b = record { nc = b.codes.nc; bc = b.codes.bc; mc = b.codes.mc; xmaxc = b.codes.xmaxc; xmc = b.codes.xmc; xmax = b.xmax }

-- the fields of the blocks of a frame, with their maxima
abbrev pub fields_of_blocks : Params → List ℤ → BlockFields
fields_of_blocks p xmax = record { nc = p.nc; bc = p.bc; mc = p.mc; xmaxc = p.xmaxc; xmc = p.xmc; xmax = xmax }
