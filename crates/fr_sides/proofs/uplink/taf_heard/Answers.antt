use Rattle.std.proofs.Common.{rules}
use Rattle.fr_sides.proofs.uplink.taf_heard.Goals as goal

pub returns-in_default : goal.returns-in_default
returns-in_default c = search rules
