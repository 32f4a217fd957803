use Rattle.std.proofs.Common.{arith}
use Rattle.trau_bits.proofs.BitList.{filled_bits, filled-below}
use Rattle.trau_bits.proofs.unpack.Goals as goal

pub returns-clause-bits : goal.returns-clause-bits
returns-clause-bits c = filled_bits c.args.bytes.now c.loop-k.bits (omega arith) (λ i h. c.loop-k.invariant i (omega arith))

pub returns-clause-are_bits : goal.returns-clause-are_bits
returns-clause-are_bits c = filled-below c.args.bytes.now c.loop-k.bits (omega arith) (λ i h. c.loop-k.invariant i (omega arith))
