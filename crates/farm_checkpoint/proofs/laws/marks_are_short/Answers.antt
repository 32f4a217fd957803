use Rattle.farm_checkpoint.proofs.Short.{short}
use Rattle.farm_checkpoint.proofs.laws.marks_are_short.Goals as goal

pub returns : goal.returns
returns c = short
