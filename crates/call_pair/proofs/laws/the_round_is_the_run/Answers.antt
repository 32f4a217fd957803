use Rattle.call_pair.proofs.Rounded.{one-rounded, two-rounded}
use Rattle.call_pair.proofs.laws.the_round_is_the_run.Goals as goal

pub returns-clause-one : goal.returns-clause-one
returns-clause-one c = one-rounded

pub returns-clause-two : goal.returns-clause-two
returns-clause-two c = two-rounded
