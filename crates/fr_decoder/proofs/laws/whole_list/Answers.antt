use Rattle.std.proofs.Common.{reverse}
use Rattle.fr_decoder.proofs.Frames.{in_turn}
use Rattle.fr_decoder.proofs.laws.whole_list.Goals as goal

pub returns-clause-samples : goal.returns-clause-samples
returns-clause-samples c = λ frames. (in_turn (reverse frames)).1

pub returns-clause-memory : goal.returns-clause-memory
returns-clause-memory c = λ past. (in_turn past).0
