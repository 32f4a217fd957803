use Rattle.down_framer.proofs.FrameLaws.{apart}
use Rattle.down_framer.proofs.laws.bridges_apart.Goals as goal

pub returns : goal.returns
returns c = apart
