use Rattle.std.proofs.Common.{◌≤◌, sym, ap, ◌∙◌, subst, arith}
use Rattle.switchboard.specs.State.{State, last_stamp, gone_in, told_more}
use Rattle.switchboard.specs.Calls.{is_open}
use Rattle.switchboard.specs.Rows.{Rows}
use Rattle.switchboard.specs.Stands.{IsBoard, board_state, dones}
use Rattle.switchboard.specs.Open.{law_now}
use Rattle.switchboard.proofs.Boards.Lists.{bridges-bound}
use Rattle.switchboard.proofs.Boards.States.{told_call, board-told, state-told}
use Rattle.switchboard.proofs.Orders.InRange.{before_more}
use Rattle.switchboard.proofs.Boards.Changes.{Without, board_sized, ended_changes}
use Rattle.switchboard.proofs.board.Board.ended.Goals as goal

pub end_call-requires-clause-few : goal.end_call-requires-clause-few
end_call-requires-clause-few c =
    let b = c.self.invariant.0 in
    omega (arith, bridges-bound c.self.inside.orders c.self.inside.replies.items c.self.inside.table b, b.most, b.few)

pub invariant_of-self : goal.invariant_of-self
invariant_of-self c =
    let i = c.self.inside in
    let os = i.orders in
    let xs = i.replies.items in
    let o = told_call os xs i.table c.args.end.call c.self.invariant.0 (ap (λ (s : State). is_open (gone_in s) s.done c.args.end.call) c.self.view_is
    ∙ c.requires.open) in
    let late : last_stamp (dones os xs) ≤ c.args.end.at = subst (λ (s : State). last_stamp s.done ≤ c.args.end.at) (sym c.self.view_is) c.requires.late in (
      subst (λ (n : Rows). IsBoard os xs n) (sym c.end_call.ensures) (board-told os xs i.table c.args.end c.self.invariant.0
          (board_sized os xs i.table c.self.invariant.0) late o),
      c.self.invariant.1,
    )

pub returns-clause-state : goal.returns-clause-state
returns-clause-state c =
    let i = c.self.inside in
    ap (board_state i.orders i.replies.items) c.end_call.ensures ∙ state-told i.orders i.replies.items i.table c.args.end
    ∙ ap (λ (s : State). told_more s c.args.end) c.self.view_is

pub returns-clause-told : goal.returns-clause-told
returns-clause-told c = before_more c.args.self.now _ c.args.end (returns-clause-state c)

without : (c : goal.After-end_call) →
    Without c.args.self.now (board_state c.self.inside.orders c.self.inside.replies.items c.end_call.new.self) c.args.end.call
without c =
    let i = c.self.inside in
    let os = i.orders in
    let xs = i.replies.items in
    let o = told_call os xs i.table c.args.end.call c.self.invariant.0 (ap (λ (s : State). is_open (gone_in s) s.done c.args.end.call) c.self.view_is
    ∙ c.requires.open) in
    ended_changes os xs i.table _ c.args.self.now c.args.end c.self.invariant.0 (board_sized os xs i.table c.self.invariant.0) c.self.view_is
    o.0 c.end_call.ensures (invariant_of-self c).0

pub returns-clause-opened : goal.returns-clause-opened
returns-clause-opened c = (without c).opened

pub returns-clause-open : goal.returns-clause-open
returns-clause-open c = (without c).lives

pub returns-clause-law : goal.returns-clause-law
returns-clause-law c = λ k. ap (λ (s : State). law_now s k) (returns-clause-state c)

pub returns-clause-partner : goal.returns-clause-partner
returns-clause-partner c = (without c).partner
