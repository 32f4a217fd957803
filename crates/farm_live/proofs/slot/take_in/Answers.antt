use Rattle.farm_live.proofs.Splits.{merges}
use Rattle.farm_live.proofs.slot.take_in.Goals as goal

pub absorb-requires-clause-rule : goal.absorb-requires-clause-rule
absorb-requires-clause-rule c = merges _ _ _ _ c.requires.free c.requires.same
