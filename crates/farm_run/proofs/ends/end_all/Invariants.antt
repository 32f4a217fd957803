use Rattle.std.proofs.Common.{map, take}
use Rattle.farm_run.specs.Ending.{limit_at}
use Rattle.farm_run.proofs.Told.Ends.{IsTold}
use Rattle.farm_run.proofs.ends.end_all.Given as goal

abbrev pub invariant-loop-call : goal.invariant-loop-call
invariant-loop-call l = IsTold l.initial.board l.board (take l.call-index (map (limit_at l.at) l.calls))
