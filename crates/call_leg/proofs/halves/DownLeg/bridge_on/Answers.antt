use Rattle.std.proofs.Common.{rules}
use Rattle.call_leg.proofs.halves.DownLeg.bridge_on.Goals as goal

pub returns : goal.returns
returns c = search rules
