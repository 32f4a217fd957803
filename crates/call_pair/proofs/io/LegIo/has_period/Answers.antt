use Rattle.std.proofs.Common.{rules}
use Rattle.call_pair.proofs.io.LegIo.has_period.Goals as goal

pub returns : goal.returns
returns c = search rules
