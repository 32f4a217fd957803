use Rattle.std.proofs.Common.{refl}
use Rattle.pool_run.proofs.Members.{stolen}
use Rattle.pool_run.proofs.member.steal_at.Goals as goal

pub returns : goal.returns
returns g c =
    stolen g.W.Work.finish c.args.thieves.now c.args.member.now _ c.args.k c.steal.new.pass c.index_mut.result.now c.index-thieves-k.result c.requires.ready
    c.requires.there refl c.index_mut.ensures.value c.index-thieves-k.is
    c.steal.ensures.same c.steal.result c.steal.ensures.stolen
