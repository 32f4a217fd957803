use Rattle.std.proofs.Common.{reverse}
use Rattle.tx_dtx.proofs.Sending.{in_turn}
use Rattle.tx_dtx.proofs.laws.whole_list.Goals as goal

pub returns-clause-sent : goal.returns-clause-sent
returns-clause-sent c = λ frames. (in_turn (reverse frames)).1

pub returns-clause-memory : goal.returns-clause-memory
returns-clause-memory c = λ past. (in_turn past).0
