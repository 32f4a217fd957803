use Rattle.std.proofs.Common.{arith, rules}
use Rattle.ccu_end.proofs.station.take_next.Goals as goal

pub returns-clause-found : goal.returns-clause-found
returns-clause-found c = (search rules, omega arith)
