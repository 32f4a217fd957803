use Rattle.std.proofs.Common.{rules}
use Rattle.rtp_buffer.proofs.Slots.{stays}
use Rattle.rtp_buffer.proofs.store.Store.take_there.Goals as goal

pub returns-clause-others : goal.returns-clause-others
returns-clause-others g c other k h = stays c.args.self.now.slots _ _ _ other k (search rules) (c.take.ensures.others other k h)
