use Rattle.std.proofs.Common.{sym}
use Rattle.pool_run.proofs.Members.{kept, pushed_on, err_of}
use Rattle.pool_run.proofs.member.put.Goals as goal

pub returns-then-finished : goal.returns-then-finished
returns-then-finished g c =
    kept g.W.Work.finish c.args.thieves.now c.args.member.now c.keep.new.done c.args.task c.keep.result c.requires
    (g.met.W.Work.stays c.args.task.job.value (rw (sym c.deref.ensures) (c.finished.ensures.0 c.if-finished.true))) c.keep.ensures

pub returns-else-finished : goal.returns-else-finished
returns-else-finished g c =
    pushed_on g.W.Work.finish c.args.thieves.now c.args.member.now c.push.new.owner c.args.task c.push.result c.err.result c.requires c.push.ensures.same
    c.push.ensures.pushed
    (err_of g.W.Work.finish c.args.thieves.now c.push.result c.err.result c.err.ensures.value)
