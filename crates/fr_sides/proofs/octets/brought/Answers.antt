use Rattle.std.proofs.Common.{rules}
use Rattle.fr_sides.proofs.octets.brought.Goals as goal

pub returns-in-3-default : goal.returns-in-3-default
returns-in-3-default c = search rules
