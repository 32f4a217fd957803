use Rattle.std.proofs.Common.{rules}
use Rattle.call_leg.proofs.halves.UpLeg.bridge_on.Goals as goal

pub returns-clause-step : goal.returns-clause-step
returns-clause-step c = search rules
