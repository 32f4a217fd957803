use Rattle.std.proofs.Common.{arith}
use Rattle.pool_run.proofs.Pools.{placed}
use Rattle.pool_run.proofs.pool.place_at.Goals as goal

pub push_reserved-requires-clause-room : goal.push_reserved-requires-clause-room
push_reserved-requires-clause-room g c = let left = c.requires.room c.args.at c.index-members-at.result c.requires.there in omega (arith, left.0, left.1)

pub returns : goal.returns
returns g c =
    placed g.W.Work.finish c.args.thieves.now c.args.members.now c.args.at c.index-members-at.result c.push_reserved.new.owner c.args.task c.requires.pool
    c.requires.there c.push_reserved.ensures.same
    c.push_reserved.ensures.pushed c.push_reserved.ensures.index
