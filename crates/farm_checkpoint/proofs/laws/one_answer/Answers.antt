use Rattle.farm_checkpoint.proofs.Fronts.{one_mark, not_good_and_bad, one_first}
use Rattle.farm_checkpoint.proofs.laws.one_answer.Goals as goal

pub returns-clause-mark : goal.returns-clause-mark
returns-clause-mark c = one_mark

pub returns-clause-good : goal.returns-clause-good
returns-clause-good c = not_good_and_bad

pub returns-clause-first : goal.returns-clause-first
returns-clause-first c = one_first
