use Rattle.std.proofs.Common.{rules}
use Rattle.block_lines.proofs.command.end_text.Goals as goal

pub returns-in-WriteFailed : goal.returns-in-WriteFailed
returns-in-WriteFailed g c = search rules
