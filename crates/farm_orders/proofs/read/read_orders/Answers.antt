use Rattle.std.proofs.Common.{rules}
use Rattle.farm_orders.proofs.Told.{reads_part, reads_whole, told}
use Rattle.farm_orders.proofs.read.read_orders.Goals as goal

pub returns-in_err-text-clause-reads : goal.returns-in_err-text-clause-reads
returns-in_err-text-clause-reads g c = search (rules, reads_part)

pub returns-in_err-text-clause-told : goal.returns-in_err-text-clause-told
returns-in_err-text-clause-told g c = told _ _ _ (returns-in_err-text-clause-reads g c)

pub returns-clause-reads : goal.returns-clause-reads
returns-clause-reads g c = search (rules, reads_whole)

pub returns-clause-told : goal.returns-clause-told
returns-clause-told g c = told _ _ _ (returns-clause-reads g c)
