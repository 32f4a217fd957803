use Rattle.std.proofs.Common.{rules}
use Rattle.switchboard.proofs.table.Table.unbridge_reply.Goals as goal

pub returns-in-Some-clause-value : goal.returns-in-Some-clause-value
returns-in-Some-clause-value c = λ t. search rules
