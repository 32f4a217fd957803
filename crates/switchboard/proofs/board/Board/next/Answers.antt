use Rattle.std.proofs.Common.{length, subst}
use Rattle.switchboard.specs.State.{State}
use Rattle.switchboard.specs.Stands.{AreRising}
use Rattle.switchboard.proofs.Orders.InRange.{left_rising}
use Rattle.switchboard.proofs.board.Board.next.Goals as goal

pub returns-clause-rising : goal.returns-clause-rising
returns-clause-rising c = subst (λ (s : State). AreRising s.left) c.self.view_is
    (left_rising c.self.inside.orders (length c.self.inside.replies.items) c.list.ensures.orders)
