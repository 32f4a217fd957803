use Rattle.frame_sync.proofs.Unique.{same_yields}
use Rattle.frame_sync.proofs.laws.one_list.Goals as goal

pub returns : goal.returns
returns c = same_yields
