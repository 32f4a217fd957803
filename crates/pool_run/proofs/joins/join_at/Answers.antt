use Rattle.pool_run.proofs.Joining.{any_thief, pass_is, joined_pass}
use Rattle.pool_run.proofs.joins.join_at.Goals as goal

pub join_pass-requires-clause-pass : goal.join_pass-requires-clause-pass
join_pass-requires-clause-pass g c =
    pass_is g.W.Work.finish c.args.thieves.now c.args.members.now c.args.k c.index-members-k.result c.args.pass _ _ c.requires.shared c.requires.there
    c.requires.pass

pub returns : goal.returns
returns g c =
    joined_pass g.W.Work.finish c.args.thieves.now c.args.members.now c.args.k c.index-members-k.result c.join_pass.new.owner c.args.pass c.requires.shared
    c.requires.there c.requires.pass
    (any_thief g.W.Work.finish c.args.thieves.now c.args.members.now c.args.k _ _ c.requires.shared c.requires.there) c.join_pass.ensures.same
    c.join_pass.ensures.joined
