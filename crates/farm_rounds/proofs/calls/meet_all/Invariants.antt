use Rattle.farm_rounds.proofs.Work.Meeting.{AreMet}
use Rattle.farm_rounds.proofs.calls.meet_all.Given as goal

abbrev pub invariant-loop-at : goal.invariant-loop-at
invariant-loop-at l = AreMet l.initial.calls l.calls l.at
