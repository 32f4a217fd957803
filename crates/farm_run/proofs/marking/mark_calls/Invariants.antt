use Rattle.std.proofs.Common.{◌≡◌, map, take}
use Rattle.farm_run.specs.Marking.{entry_of}
use Rattle.farm_run.proofs.marking.mark_calls.Given as goal

abbrev pub invariant-loop-call : goal.invariant-loop-call
invariant-loop-call l = l.calls.items ≡ map (entry_of l.stage) (take l.call-index l.live)
