use Rattle.std.proofs.Common.{rules}
use Rattle.trau_orders.proofs.line.law_of.Goals as goal

pub returns-clause-some : goal.returns-clause-some
returns-clause-some c = search rules
