use Rattle.call_pair.proofs.Telling.{one-runs, two-run}
use Rattle.call_pair.proofs.laws.the_run_is_that_of_the_halves.Goals as goal

pub returns-clause-one : goal.returns-clause-one
returns-clause-one c = one-runs

pub returns-clause-two : goal.returns-clause-two
returns-clause-two c = two-run
