-- Orders that are executed one after another.
use Rattle.std.proofs.Common.{◌≡◌, sym, ◌∙◌, subst, ℕ, ◌≤◌, Option, List}
use Rattle.trau_orders.specs.declared.order.Order.{Order}
use Rattle.trau_orders.specs.Lists.{AreOrders}
use Rattle.switchboard.specs.State.{State, after_turn, last_stamp, orders_of}
use Rattle.farm_rounds.specs.Memory.{FarmMemory}
use Rattle.farm_run.specs.declared.notes.SentBefore.{SentBefore}
use Rattle.farm_run.specs.Orders.{KeepsBoard, OrdersDone}
use Rattle.farm_run.proofs.Listed.Boards.{over_turned}
use Rattle.farm_run.proofs.Noted.Openings.{opened_by}
use Rattle.farm_run.proofs.Ordered.Due.{told_kept}

-- **What one order leaves of the board.**
pub board_turned : (t : ℕ) (b n : State) (o : Option Order) → n ≡ after_turn b o → orders_of n ≡ orders_of b →
    AreOrders (orders_of b) → last_stamp n.done ≤ t → KeepsBoard t b n
board_turned t b n o state kept orders past = record {
  kept = kept;
  told = told_kept b n o state;
  over = over_turned b n o state;
  openings = λ m less openings. opened_by t m n (subst AreOrders (sym kept) orders) past less;
}

-- **One order comes after another.**
pub board_then : (t : ℕ) (b b1 b2 : State) → KeepsBoard t b b1 → KeepsBoard t b1 b2 → KeepsBoard t b b2
board_then t b b1 b2 o p = record {
  kept = p.kept ∙ o.kept;
  told = p.told ∙ o.told;
  over = λ c over. p.over c (o.over c over);
  openings = λ n less openings. p.openings n less (o.openings n less openings);
}

module _ (t : ℕ) (b : State) (farm : FarmMemory) (ns : List SentBefore) where
  -- Board, farm and notes are as one order after another leaves them.
  pub done_then : (b1 b2 : State) (farm1 farm2 : FarmMemory) (ns1 ns2 : List SentBefore) → OrdersDone t b farm ns b1 farm1 ns1 →
      OrdersDone t b1 farm1 ns1 b2 farm2 ns2 → OrdersDone t b farm ns b2 farm2 ns2
  done_then b1 b2 farm1 farm2 ns1 ns2 o p = record {
    ready = p.ready;
    board = board_then t b b1 b2 o.board p.board;
    ended = p.ended ∙ o.ended;
    failed = p.failed ∙ o.failed;
    follows = λ r under follows. p.follows r under (o.follows r under follows);
    noted = λ r under follows noted. p.noted r under (o.follows r under follows) (o.noted r under follows noted);
  }
