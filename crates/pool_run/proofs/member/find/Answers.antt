use Rattle.std.proofs.Common.{None, Some}
use Rattle.pool_run.proofs.Members.{moves_trans}
use Rattle.pool_run.proofs.member.find.Goals as goal

pub steal_at-requires-clause-ready : goal.steal_at-requires-clause-ready
steal_at-requires-clause-ready g c = c.loop.invariant.ready

pub returns-in-Success : goal.returns-in-Success
returns-in-Success g c =
    moves_trans g.W.Work.finish c.args.thieves.now c.args.member.now c.loop.member c.steal_at.new.member None None
    (Some c.in-Success.task) c.loop.invariant c.in-Success.ensures
