use Rattle.std.proofs.Common.{None, refl}
use Rattle.pool_run.proofs.Members.{moves_from, moves_run, from_hand, from_found, stepped, no_step}
use Rattle.pool_run.proofs.member.step.Goals.{in-Some, in-None+in-Success}
use Rattle.pool_run.proofs.member.step.Goals as goal

pub returns-in-Retry : goal.returns-in-Retry
returns-in-Retry g c =
    let finish = g.W.Work.finish in
    let moved = moves_from finish c.args.thieves.now c.args.member.now c.find.new.member c.args.hand None None c.in-None.is c.in-Retry.ensures in
    stepped finish c.args.thieves.now c.args.member.now c.find.new.member c.args.hand None moved

pub returns-in-Empty : goal.returns-in-Empty
returns-in-Empty g c =
    let finish = g.W.Work.finish in
    let moved = moves_from finish c.args.thieves.now c.args.member.now c.find.new.member c.args.hand None None c.in-None.is c.in-Empty.ensures in
    no_step finish c.args.thieves.now c.args.member.now c.find.new.member c.args.hand None refl moved

pub returns : goal.returns
returns g c =
    let finish = g.W.Work.finish in
    let thieves = c.args.thieves.now in
    let old = c.args.member.now in
    let m = c.match-hand in
    let run = moves_run finish thieves m.member c.put.new.member m.task c.advance-task.result c.put.result c.advance-task.ensures c.put.ensures in
    stepped finish thieves old c.put.new.member c.args.hand c.put.result (elim c.match-hand.branch [
      | in-Some w ↦ from_hand finish thieves old c.put.new.member m.member c.args.hand m.task w.in-Some.task c.put.result w.in-Some.is w.member-is w.task-is run
      | in-None+in-Success w ↦
          from_found finish thieves old c.put.new.member m.member w.find.new.member c.args.hand m.task w.in-Success.task c.put.result w.in-None.is w.member-is
          w.task-is w.in-Success.ensures run
    ])
