use Rattle.farm_live.proofs.Splits.{forks}
use Rattle.farm_live.proofs.slot.pass_of_first.Goals as goal

pub another-requires-clause-rule : goal.another-requires-clause-rule
another-requires-clause-rule c = forks _ _ c.requires.fresh c.requires.free
