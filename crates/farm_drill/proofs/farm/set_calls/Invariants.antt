use Rattle.farm_drill.specs.Lines.{AreDrilled}
use Rattle.farm_drill.proofs.farm.set_calls.Given as goal

abbrev pub invariant-loop-earlier : goal.invariant-loop-earlier
invariant-loop-earlier l = AreDrilled l.seed 0 l.periods l.initial.trunk → AreDrilled l.seed l.earlier l.periods l.trunk
