use Rattle.frame_sync.proofs.Existence.{some_yields}
use Rattle.frame_sync.proofs.laws.some_list.Goals as goal

pub returns : goal.returns
returns c = some_yields
