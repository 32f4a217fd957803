use Rattle.std.proofs.Common.{ℕ, sym, ◌∙◌, ◌+◌, subst, refl, arith}
use Rattle.trau_io.specs.declared.line.Side.TheVariants.{Up, Down}
use Rattle.ccu_end.proofs.SoFar.{SoFar, at_start}
use Rattle.ccu_end.proofs.Following.{taken, line_ended, read_failed, write_failed, desk_failed, at_last}
use Rattle.ccu_end.proofs.recording.follow_line.Goals as goal

pub loop-period-init : goal.loop-period-init
loop-period-init g c = record {
  so_far = at_start c.new-ccu.result c.args.want _ _ _ c.new-ccu.ensures.want c.new-ccu.ensures.history;
  others = λ call side up down. refl;
}

pub follow_period-requires-clause-fewer : goal.follow_period-requires-clause-fewer
follow_period-requires-clause-fewer g c = omega (arith, c.loop-period.invariant.so_far.counted, c.loop-period-test.true)

pub overflow_add-frames : goal.overflow_add-frames
overflow_add-frames g c = omega (arith, c.loop-period.invariant.so_far.at_most, c.loop-period-test.true)

pub returns-in-LineEnded-clause-follows : goal.returns-in-LineEnded-clause-follows
returns-in-LineEnded-clause-follows g c = line_ended c.loop-period.ccu c.follow_period.new.ccu c.args.want _ _ _ _ _ _ _ _ _ _ _ c.loop-period.invariant.so_far
    (omega (arith, c.loop-period-test.true)) c.in-LineEnded.left c.in-LineEnded.ensures.period

pub returns-in-ReadFailed-clause-follows : goal.returns-in-ReadFailed-clause-follows
returns-in-ReadFailed-clause-follows g c = read_failed c.loop-period.ccu c.follow_period.new.ccu c.args.want _ _ _ _ _ _ _ _ _ _ _
    c.loop-period.invariant.so_far (omega (arith, c.loop-period-test.true)) c.in-ReadFailed.ensures.period

pub returns-in-WriteFailed-clause-follows : goal.returns-in-WriteFailed-clause-follows
returns-in-WriteFailed-clause-follows g c = write_failed c.loop-period.ccu c.follow_period.new.ccu c.args.want _ _ _ _ _ _ _ _ _ _ _
    c.loop-period.invariant.so_far (omega (arith, c.loop-period-test.true)) c.in-WriteFailed.ensures.period

pub returns-in-DeskFailed-clause-follows : goal.returns-in-DeskFailed-clause-follows
returns-in-DeskFailed-clause-follows g c = desk_failed c.loop-period.ccu c.follow_period.new.ccu c.args.want _ _ _ _ _ _ _ _ _ _ _
    c.loop-period.invariant.so_far (omega (arith, c.loop-period-test.true)) c.in-DeskFailed.ensures.period

pub loop-period-preserved : goal.loop-period-preserved
loop-period-preserved g c = record {
  so_far =
      let so_far : ℕ → Type 0 = λ more. SoFar c.follow_period.new.ccu c.args.want (g.T.Trunk.lines c.args.trunk.now c.args.call Up)
      (g.T.Trunk.lines c.follow_period.new.trunk c.args.call Up) (g.T.Trunk.lines c.args.trunk.now c.args.call Down)
      (g.T.Trunk.lines c.follow_period.new.trunk c.args.call Down) (g.D.Desk.desk c.args.desk.now) (g.D.Desk.desk c.follow_period.new.desk)
      (c.loop-period._period + 1) (c.loop-period.frames + more) in
      subst so_far (sym c.from-frames.ensures) (taken c.loop-period.ccu c.follow_period.new.ccu c.args.want _ _ _ _ _ _ _ _ _ _ _ c.loop-period.invariant.so_far
      c.in-Taken.count c.in-Taken.ensures.period);
  others = λ call side up down. c.follow_period.ensures.others call side up down ∙ c.loop-period.invariant.others call side up down;
}

pub returns-clause-follows : goal.returns-clause-follows
returns-clause-follows g c = at_last c.loop-period.ccu c.args.want _ _ _ _ _ _ _ _ c.loop-period.invariant.so_far (omega arith)
