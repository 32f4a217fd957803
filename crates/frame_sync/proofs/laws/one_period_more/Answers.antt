use Rattle.frame_sync.proofs.Order.{yield_in-more}
use Rattle.frame_sync.proofs.laws.one_period_more.Goals as goal

pub returns : goal.returns
returns c = yield_in-more
