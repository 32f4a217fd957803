use Rattle.frame_sync.proofs.Order.{filter-yields}
use Rattle.frame_sync.proofs.laws.each_in_its_period.Goals as goal

pub returns : goal.returns
returns c = filter-yields
