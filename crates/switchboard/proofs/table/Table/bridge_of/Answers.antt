use Rattle.std.proofs.Common.{arith}
use Rattle.std.proofs.lemmas.Grind.{common_steps}
use Rattle.switchboard.proofs.table.Table.bridge_of.Goals as goal

pub returns-then-is_open-2-clause-value : goal.returns-then-is_open-2-clause-value
returns-then-is_open-2-clause-value c = grind (arith, common_steps)
