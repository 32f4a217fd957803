use Rattle.rtp_buffer.proofs.Slots.{of_another}
use Rattle.rtp_buffer.proofs.slot.Slot.leave_out.Goals as goal
use Rattle.std.proofs.Common.{arith}

pub returns-else-self-period-clause-own : goal.returns-else-self-period-clause-own
returns-else-self-period-clause-own g c k = grind (arith, of_another c.args.self.now c.args.period k)
