use Rattle.std.proofs.Common.{rules}
use Rattle.fr_sides.proofs.downlink.down_frame.Goals as goal

pub returns-in-1-Some-clause-value : goal.returns-in-1-Some-clause-value
returns-in-1-Some-clause-value c = search rules
