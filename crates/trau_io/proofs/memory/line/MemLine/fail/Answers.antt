use Rattle.std.proofs.Common.{rules}
use Rattle.trau_io.proofs.memory.line.MemLine.fail.Goals as goal

pub returns-clause-after : goal.returns-clause-after
returns-clause-after c = search rules
