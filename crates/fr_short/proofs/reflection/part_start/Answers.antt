use Rattle.std.proofs.Common.{rules}
use Rattle.fr_short.specs.Reflection.{part_start}
use Rattle.fr_short.proofs.reflection.part_start.Goals as goal

pub returns-in-1-clause-value : goal.returns-in-1-clause-value
unfolding part_start
returns-in-1-clause-value c = search rules
