use Rattle.std.proofs.Common.{arith}
use Rattle.rtp_buffer.proofs.Slots.{of_another}
use Rattle.rtp_buffer.proofs.slot.Slot.have_come.Goals as goal

pub returns-else-self-period-clause-no : goal.returns-else-self-period-clause-no
returns-else-self-period-clause-no g c h = (c.args.part, omega arith, grind (arith, h), grind (arith, of_another c.args.self.now c.args.period c.args.part))
