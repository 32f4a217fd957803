use Rattle.std.proofs.Common.{length}
use Rattle.farm_checkpoint.proofs.Reading.{HasCalls}
use Rattle.farm_checkpoint.proofs.read.read_calls.Given as goal

abbrev pub invariant-loop-call : goal.invariant-loop-call
invariant-loop-call l = HasCalls l.period l.initial.rest l.calls.items l.rest l.last

abbrev pub decreases-loop-call : goal.decreases-loop-call
decreases-loop-call l = length l.rest
