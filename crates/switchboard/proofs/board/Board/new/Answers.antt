use Rattle.std.proofs.Common.{◌≡◌, List, [], length, replicate, sym, ap, ◌∙◌, subst, arith}
use Rattle.trau_orders.specs.declared.order.Order.{Order}
use Rattle.switchboard.specs.declared.act.Reply.{Reply}
use Rattle.switchboard.specs.State.{State}
use Rattle.switchboard.specs.Open.{law_now}
use Rattle.switchboard.specs.Rows.{never}
use Rattle.switchboard.specs.Stands.{IsBoard, board_state}
use Rattle.switchboard.proofs.Tables.Sizes.{rows}
use Rattle.switchboard.proofs.Boards.States.{board-new, state-new}
use Rattle.switchboard.proofs.Orders.InRange.{told_none}
use Rattle.switchboard.proofs.Boards.Changes.{start_alone}
use Rattle.switchboard.proofs.board.Board.new.Goals as goal

table : (c : goal.In_ok-replies) → c.in_ok-table.table ≡ rows (replicate 4097 never) [] [] (length c.args.orders)
table c = c.in_ok-table.ensures ∙ ap (λ (os : List Order). rows (replicate 4097 never) [] [] (length os)) c.list-most.ensures.value

pub invariant_of-result : goal.invariant_of-result
invariant_of-result c = (
  subst (λ (xs : List Reply). IsBoard c.args.orders xs c.in_ok-table.table) (sym c.in_ok-replies.ensures.items)
      (board-new c.args.orders c.in_ok-table.table c.list-most.ensures.orders (table c)),
  omega (arith, c.in_ok-replies.ensures.exact, ap length c.list-most.ensures.value),
)

pub returns-clause-start : goal.returns-clause-start
returns-clause-start c = ap (λ (xs : List Reply). board_state c.args.orders xs c.in_ok-table.table) c.in_ok-replies.ensures.items
    ∙ state-new c.args.orders c.in_ok-table.table (table c)

pub returns-clause-untold : goal.returns-clause-untold
returns-clause-untold c = told_none _ c.args.orders (returns-clause-start c)

pub returns-clause-opened : goal.returns-clause-opened
returns-clause-opened c = λ k. (start_alone _ c.args.orders (returns-clause-start c) k).0

pub returns-clause-open : goal.returns-clause-open
returns-clause-open c = λ k. (start_alone _ c.args.orders (returns-clause-start c) k).1

pub returns-clause-law : goal.returns-clause-law
returns-clause-law c = λ k. ap (λ (s : State). law_now s k) (returns-clause-start c)

pub returns-clause-partner : goal.returns-clause-partner
returns-clause-partner c = λ k. (start_alone _ c.args.orders (returns-clause-start c) k).2
