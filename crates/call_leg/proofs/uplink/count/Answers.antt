use Rattle.std.proofs.Common.{rules}
use Rattle.call_leg.proofs.uplink.count.Goals as goal

pub returns-in-Missed-clause-value : goal.returns-in-Missed-clause-value
returns-in-Missed-clause-value c = search rules
