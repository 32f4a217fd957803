use Rattle.call_pair.proofs.Runs.{two-finished}
use Rattle.call_pair.proofs.laws.two_calls_are_worked.Goals as goal

pub returns : goal.returns
returns c = two-finished
