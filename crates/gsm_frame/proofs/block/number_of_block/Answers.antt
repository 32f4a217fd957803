use Rattle.std.proofs.Common.{arith}
use Rattle.gsm_frame.specs.Packed.{packed_from}
use Rattle.gsm_frame.proofs.block.number_of_block.Goals as goal

pub returns-clause-value : goal.returns-clause-value
unfolding packed_from
returns-clause-value c = omega arith
