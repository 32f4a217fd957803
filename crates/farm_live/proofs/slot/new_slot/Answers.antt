use Rattle.farm_live.proofs.Splits.{begins}
use Rattle.farm_live.proofs.slot.new_slot.Goals as goal

pub ruled-requires-clause-rule : goal.ruled-requires-clause-rule
ruled-requires-clause-rule c = begins
