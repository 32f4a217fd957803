use Rattle.std.proofs.Common.{arith}
use Rattle.rtp_buffer.proofs.Histories.{after_leave_out_before}
use Rattle.rtp_buffer.proofs.store.Store.leave_out_before.Goals as goal

pub returns-clause-stands : goal.returns-clause-stands
returns-clause-stands g c deeds s = after_leave_out_before deeds c.args.self.now.slots c.loop-n.self.slots c.args.first (λ period k. grind (arith, c.loop-n.invariant period k)) s
