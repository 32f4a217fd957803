use Rattle.rtp_buffer.proofs.Histories.{after_put}
use Rattle.rtp_buffer.proofs.store.Store.put.Goals as goal

pub returns-clause-stands : goal.returns-clause-stands
returns-clause-stands g c deeds s =
    after_put deeds c.args.self.now.slots c.put_there.new.self.slots c.args.period c.args.part c.args.octets.now
    c.put_there.ensures.own c.put_there.ensures.same_slot c.put_there.ensures.others s
