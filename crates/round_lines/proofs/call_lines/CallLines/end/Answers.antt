use Rattle.std.proofs.Common.{rules}
use Rattle.round_lines.proofs.call_lines.CallLines.end.Goals as goal

pub returns-else-whole-self : goal.returns-else-whole-self
returns-else-whole-self c = search rules
