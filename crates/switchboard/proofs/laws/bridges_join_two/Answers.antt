use Rattle.switchboard.proofs.Boards.Changes.{board_sized, pairs_now}
use Rattle.switchboard.proofs.laws.bridges_join_two.Goals as goal

pub returns : goal.returns
returns c =
    let i = c.board.inside in
    let b = c.board.invariant.0 in pairs_now i.orders i.replies.items i.table c.args.board.now b (board_sized i.orders i.replies.items i.table b) c.board.view_is
