use Rattle.std.proofs.Common.{◌≡◌}
use Rattle.farm_rounds.specs.Opens.{open_begun}
use Rattle.farm_rounds.specs.Opened.{standings, end_beside}
use Rattle.farm_rounds.proofs.Places.Boxes.{AreChanged}
use Rattle.farm_rounds.proofs.calls.begin_all.Given as goal

abbrev pub invariant-loop-at : goal.invariant-loop-at
invariant-loop-at l = record {
  changed : AreChanged (λ k o. open_begun (end_beside (standings l.initial.calls) o) o) l.initial.calls l.calls l.at;
  same : standings l.calls ≡ standings l.initial.calls;
}
