use Rattle.call_pair.proofs.RunsAlone.{one-finished}
use Rattle.call_pair.proofs.laws.one_call_is_worked.Goals as goal

pub returns : goal.returns
returns c = one-finished
