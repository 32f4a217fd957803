use Rattle.pool_core.proofs.Whole.{once_after, place_is}
use Rattle.pool_core.proofs.laws.every_list_of_steps.Goals as goal

pub returns-clause-once : goal.returns-clause-once
returns-clause-once c = λ workers lens steps job l h. once_after workers lens steps job l h

pub returns-clause-places : goal.returns-clause-places
returns-clause-places c = λ workers lens steps job l h. place_is workers lens steps job l h
