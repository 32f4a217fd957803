use Rattle.farm_rounds.specs.Opens.{open_planned}
use Rattle.farm_rounds.proofs.Places.Boxes.{AreChanged}
use Rattle.farm_rounds.proofs.calls.plan_all.Given as goal

abbrev pub invariant-loop-call : goal.invariant-loop-call
invariant-loop-call l = AreChanged (λ k. open_planned l.periods) l.initial.calls l.calls l.call-index
