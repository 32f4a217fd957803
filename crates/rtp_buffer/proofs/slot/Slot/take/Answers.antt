use Rattle.rtp_buffer.proofs.Slots.{of_another}
use Rattle.rtp_buffer.proofs.slot.Slot.take.Goals as goal
use Rattle.std.proofs.Common.{arith}

pub returns-else-self-period-clause-heard : goal.returns-else-self-period-clause-heard
returns-else-self-period-clause-heard g c k h = grind (arith, of_another c.args.self.now c.args.period k, c.fill.ensures k h)

pub returns-else-self-period-clause-own : goal.returns-else-self-period-clause-own
returns-else-self-period-clause-own g c k = grind (arith, of_another c.args.self.now c.args.period k)
