use Rattle.std.proofs.Common.{rules}
use Rattle.fr_sides.proofs.receiver.play.Goals as goal

pub returns-in-Quiet : goal.returns-in-Quiet
returns-in-Quiet c = search rules
