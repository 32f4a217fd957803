use Rattle.std.proofs.Common.{length}
use Rattle.trau_orders.proofs.Reading.{HasRead}
use Rattle.trau_orders.proofs.text.orders_of.Given as goal

abbrev pub invariant-loop-line : goal.invariant-loop-line
invariant-loop-line l = HasRead l.initial.rest l.rest l.orders.items

abbrev pub decreases-loop-line : goal.decreases-loop-line
decreases-loop-line l = length l.rest
