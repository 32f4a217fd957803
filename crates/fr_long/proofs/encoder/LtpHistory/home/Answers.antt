use Rattle.fr_long.proofs.Words.{zeros-words}
use Rattle.fr_long.proofs.encoder.LtpHistory.home.Goals as goal

pub invariant_of-result : goal.invariant_of-result
invariant_of-result c = zeros-words 120
