use Rattle.farm_rounds.specs.Sums.{sum_in}
use Rattle.farm_rounds.proofs.Drain.Sums.{AddsFirst}
use Rattle.farm_rounds.proofs.worked.Worked.add.Given as goal

abbrev pub invariant-loop-call : goal.invariant-loop-call
invariant-loop-call l = AddsFirst l.call-index l.self.portions (sum_in l.initial.sums) (sum_in l.sums)
