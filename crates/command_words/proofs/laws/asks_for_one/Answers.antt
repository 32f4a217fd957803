use Rattle.command_words.proofs.Asking.{one_asked}
use Rattle.command_words.proofs.laws.asks_for_one.Goals as goal

pub returns : goal.returns
returns c = one_asked
