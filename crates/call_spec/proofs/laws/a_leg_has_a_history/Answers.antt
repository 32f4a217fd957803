use Rattle.call_spec.proofs.ByPeriod.{leg-history}
use Rattle.call_spec.proofs.laws.a_leg_has_a_history.Goals as goal

pub returns : goal.returns
returns c = leg-history
