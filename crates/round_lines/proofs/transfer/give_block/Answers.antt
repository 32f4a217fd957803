use Rattle.std.proofs.Common.{rules}
use Rattle.round_lines.proofs.transfer.give_block.Goals as goal

pub returns-in-Ok-clause-this : goal.returns-in-Ok-clause-this
returns-in-Ok-clause-this g c = search rules
