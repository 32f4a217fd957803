use Rattle.std.proofs.Common.{rules}
use Rattle.switchboard.proofs.table.Table.open_reply.Goals as goal

pub returns-clause-value : goal.returns-clause-value
returns-clause-value c = search rules
