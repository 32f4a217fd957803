use Rattle.std.proofs.Common.{sym, subst, ℕ, ◌≤◌}
use Rattle.trau_io.specs.declared.line.Side.{Side}
use Rattle.trau_io.specs.Lines.{LineState}
use Rattle.farm_run.specs.declared.stage.Stage.{Stage}
use Rattle.farm_run.specs.Stages.{Reaches}
use Rattle.farm_run.proofs.Lines.Cutting.{on_err}
use Rattle.farm_run.proofs.Clocks.Reaching.{reaches_none, reaches_more}
use Rattle.farm_run.proofs.clock.work_until.Goals as goal

pub loop-stage-init : goal.loop-stage-init
loop-stage-init g c = record {
  within = c.requires.before;
  reaches = reaches_none c.args.pace.now.batch c.args.stage (g.T.Trunk.lines c.args.trunk.now) c.requires.stage;
}

pub step-requires-clause-stage : goal.step-requires-clause-stage
step-requires-clause-stage g c κs lives = c.loop-stage.invariant.reaches.stage

pub loop-stage-preserved : goal.loop-stage-preserved
loop-stage-preserved g c = record {
  within = c.in_ok-stage.ensures.within;
  reaches = reaches_more c.args.pace.now.batch c.args.stage c.loop-stage.stage c.in_ok-stage.stage (g.T.Trunk.lines c.args.trunk.now)
      (g.T.Trunk.lines c.loop-stage.trunk) (g.T.Trunk.lines c.step.new.trunk) c.loop-stage.invariant.reaches c.in_ok-stage.ensures.reaches;
}

pub returns-in_err-stage-clause-cut : goal.returns-in_err-stage-clause-cut
returns-in_err-stage-clause-cut g c =
    let first : ℕ → Side → LineState = g.T.Trunk.lines c.args.trunk.now in
    let after : (after : Stage) × (after.clock ≤ c.args.until) × Reaches c.args.pace.now.batch c.args.stage after first (g.T.Trunk.lines c.step.new.trunk) = (
      c.loop-stage.stage,
      c.loop-stage.invariant.within,
      subst (Reaches c.args.pace.now.batch c.args.stage c.loop-stage.stage first)
          (sym c.in_err-stage.ensures.cut) c.loop-stage.invariant.reaches,
    ) in
    on_err _ after
