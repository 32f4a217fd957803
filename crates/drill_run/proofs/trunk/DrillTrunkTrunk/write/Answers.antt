use Rattle.drill_run.proofs.Rooms.{writes, low, high}
use Rattle.drill_run.proofs.trunk.DrillTrunkTrunk.write.Goals as goal

pub invariant_of-self : goal.invariant_of-self
invariant_of-self c = writes _ _ c.args.bytes.now _ c.write.result c.self.invariant (low c.args.line.call c.args.line.side c.args.line.number.0)
    (high c.args.line.call c.args.line.side c.args.line.number.1) c.write.ensures.answer c.write.ensures.after
