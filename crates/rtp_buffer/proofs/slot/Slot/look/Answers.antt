use Rattle.rtp_buffer.proofs.Slots.{of_another}
use Rattle.rtp_buffer.proofs.slot.Slot.look.Goals as goal
use Rattle.std.proofs.Common.{arith}

pub returns-else-self-period : goal.returns-else-self-period
returns-else-self-period g c k h = grind (arith, of_another c.args.self.now c.args.period k, c.fill.ensures k h)
