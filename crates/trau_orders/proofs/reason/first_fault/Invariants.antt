use Rattle.std.proofs.Common.{◌+◌, ◌≤◌, length}
use Rattle.trau_orders.proofs.Going.{HasGone}
use Rattle.trau_orders.proofs.reason.first_fault.Given as goal

abbrev pub invariant-loop-line : goal.invariant-loop-line
invariant-loop-line l = record { gone : HasGone l.initial.rest l.rest l.before l.least; fits : l.before + length l.rest ≤ length l.initial.rest }

abbrev pub decreases-loop-line : goal.decreases-loop-line
decreases-loop-line l = length l.rest
