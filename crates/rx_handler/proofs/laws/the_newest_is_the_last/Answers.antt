use Rattle.std.proofs.Common.{sym, []}
use Rattle.rx_handler.proofs.LookBack.{effective-history}
use Rattle.rx_handler.proofs.laws.the_newest_is_the_last.Goals as goal

pub returns : goal.returns
returns c = λ call y past. sym (effective-history call y past [])
