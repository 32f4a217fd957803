use Rattle.rtp_buffer.proofs.Histories.{after_take, heard_in_time}
use Rattle.rtp_buffer.proofs.store.Store.take.Goals as goal

pub returns-clause-stands : goal.returns-clause-stands
returns-clause-stands g c deeds s =
    after_take deeds c.args.self.now.slots c.take_there.new.self.slots c.args.period c.take_there.ensures.own c.take_there.ensures.others s

pub returns-clause-in_time : goal.returns-clause-in_time
returns-clause-in_time g c deeds s w k l =
    heard_in_time deeds c.args.self.now.slots c.args.period k c.args.filler _ s w (c.take_there.ensures.heard k l)
