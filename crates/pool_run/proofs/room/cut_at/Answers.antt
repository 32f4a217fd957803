use Rattle.std.proofs.Common.{ap}
use Rattle.pool_run.specs.declared.deque.View.{View}
use Rattle.pool_run.proofs.Left.{left_same}
use Rattle.pool_run.proofs.Cuts.{two_parts, cut_unused, cut_rows}
use Rattle.pool_run.proofs.room.cut_at.Goals as goal

pub cut_pass-requires : goal.cut_pass-requires
cut_pass-requires g c =
    two_parts g.W.Work.finish c.args.thieves.now c.args.members.now c.args.k c.index-members-k.result c.requires.unused c.requires.there c.requires.few

pub returns-clause-unused : goal.returns-clause-unused
returns-clause-unused g c =
    cut_unused g.W.Work.finish c.args.thieves.now c.args.members.now c.args.k c.index-members-k.result c.requires.unused c.requires.there c.requires.few
    c.cut_pass.new.owner c.cut_pass.ensures.same c.cut_pass.ensures.left

pub returns-clause-rows : goal.returns-clause-rows
returns-clause-rows g c =
    cut_rows g.W.Work.finish c.args.thieves.now c.args.members.now c.args.k c.index-members-k.result c.requires.unused c.requires.there c.requires.few
    c.cut_pass.new.owner c.cut_pass.ensures.same c.cut_pass.ensures.left

pub returns-clause-room : goal.returns-clause-room
returns-clause-room g c =
    left_same c.args.members.now c.args.k c.index-members-k.result c.cut_pass.new.owner c.requires.there c.cut_pass.ensures.same c.cut_pass.ensures.index 0

pub returns-clause-obtained : goal.returns-clause-obtained
returns-clause-obtained g c = ap (λ (v : View g.row.W.Denot). v.obtained) c.cut_pass.ensures.cut
