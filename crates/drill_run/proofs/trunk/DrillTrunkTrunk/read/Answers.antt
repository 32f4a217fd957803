use Rattle.drill_run.proofs.Rooms.{reads, low, high}
use Rattle.drill_run.proofs.trunk.DrillTrunkTrunk.read.Goals as goal

pub invariant_of-self : goal.invariant_of-self
invariant_of-self c = reads _ _ _ _ c.read.result c.self.invariant (low c.args.line.call c.args.line.side c.args.line.number.0)
    (high c.args.line.call c.args.line.side c.args.line.number.1) c.read.ensures.answer c.read.ensures.after
