use Rattle.std.proofs.Common.{rules}
use Rattle.rx_handler.proofs.hearing.next_fall.Goals as goal

pub returns-clause-periods : goal.returns-clause-periods
returns-clause-periods c = search rules
