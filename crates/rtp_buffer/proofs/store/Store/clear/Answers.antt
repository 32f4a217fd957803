use Rattle.std.proofs.Common.{arith}
use Rattle.rtp_buffer.proofs.Histories.{nothing, stands_empty}
use Rattle.rtp_buffer.proofs.store.Store.clear.Goals as goal

pub returns-clause-empty : goal.returns-clause-empty
returns-clause-empty g c = nothing _ _ c.loop-n.invariant (omega arith)

pub returns-clause-stands : goal.returns-clause-stands
returns-clause-stands g c = stands_empty _ (nothing _ _ c.loop-n.invariant (omega arith))
