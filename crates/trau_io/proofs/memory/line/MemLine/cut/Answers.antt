use Rattle.std.proofs.Common.{rules}
use Rattle.trau_io.proofs.memory.line.MemLine.cut.Goals as goal

pub returns-in-Some-clause-value : goal.returns-in-Some-clause-value
returns-in-Some-clause-value c = search rules
