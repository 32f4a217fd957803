use Rattle.pool_run.proofs.Members.{popped}
use Rattle.pool_run.proofs.member.pop_own.Goals as goal

pub returns : goal.returns
returns g c = popped g.W.Work.finish c.args.thieves.now c.args.member.now c.pop.new.owner c.pop.result c.requires c.pop.ensures.same c.pop.ensures.popped
