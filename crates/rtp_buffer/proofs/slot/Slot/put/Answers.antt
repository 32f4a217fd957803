use Rattle.rtp_buffer.proofs.Slots.{of_another}
use Rattle.rtp_buffer.proofs.slot.Slot.put.Goals as goal
use Rattle.std.proofs.Common.{arith}

pub returns-clause-others : goal.returns-clause-others
returns-clause-others g c other k h = of_another {N = g.row.N} _ other k (grind (arith, h))
