use Rattle.frame_sync.proofs.Order.{all_yields-are}
use Rattle.frame_sync.proofs.laws.periods_give_all_yields.Goals as goal

pub returns : goal.returns
returns c = all_yields-are
