use Rattle.std.proofs.Common.{length}
use Rattle.farm_run.specs.Orders.{OrdersDone}
use Rattle.farm_run.proofs.orders.execute_orders.Given as goal

abbrev pub invariant-loop-reply : goal.invariant-loop-reply
invariant-loop-reply l = OrdersDone l.clock l.initial.board l.initial.farm l.initial.notes l.board l.farm l.notes

abbrev pub decreases-loop-reply : goal.decreases-loop-reply
decreases-loop-reply l = length l.board.left
