use Rattle.rtp_buffer.proofs.Histories.{after_leave_out}
use Rattle.rtp_buffer.proofs.store.Store.leave_out.Goals as goal

pub returns-clause-stands : goal.returns-clause-stands
returns-clause-stands g c deeds s =
    after_leave_out deeds c.args.self.now.slots c.leave_out_there.new.self.slots c.args.period c.leave_out_there.ensures.own c.leave_out_there.ensures.others s
