use Rattle.std.proofs.Common.{None, refl}
use Rattle.pool_run.proofs.Members.{moves_refl, moves_trans}
use Rattle.pool_run.proofs.member.work.Goals as goal

pub loop-init : goal.loop-init
loop-init g c = moves_refl g.W.Work.finish c.args.thieves.now c.args.member.now None c.requires.ready

pub step-requires-clause-ready : goal.step-requires-clause-ready
step-requires-clause-ready g c = c.loop.invariant.ready

pub step-requires-clause-slice : goal.step-requires-clause-slice
step-requires-clause-slice g c = c.requires.slice

pub loop-preserved : goal.loop-preserved
loop-preserved g c =
    moves_trans g.W.Work.finish c.args.thieves.now c.args.member.now c.loop.member c.step.new.member None c.loop.hand c.in-Some-step.next c.loop.invariant
    (c.in-Some-step.ensures.some c.in-Some-step.next refl)

pub returns-in-None-step : goal.returns-in-None-step
returns-in-None-step g c =
    moves_trans g.W.Work.finish c.args.thieves.now c.args.member.now c.loop.member c.step.new.member None c.loop.hand None c.loop.invariant
    (c.in-None-step.ensures.none refl)
