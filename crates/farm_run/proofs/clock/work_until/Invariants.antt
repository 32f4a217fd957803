use Rattle.std.proofs.Common.{◌≤◌, ◌-◌}
use Rattle.farm_run.specs.Stages.{Reaches}
use Rattle.farm_run.proofs.clock.work_until.Given as goal

abbrev pub invariant-loop-stage : goal.invariant-loop-stage
invariant-loop-stage g l = record {
  within : l.stage.clock ≤ l.until;
  reaches : Reaches l.pace.batch l.initial.stage l.stage (g.T.Trunk.lines l.initial.trunk) (g.T.Trunk.lines l.trunk);
}

abbrev pub decreases-loop-stage : goal.decreases-loop-stage
decreases-loop-stage g l = l.until - l.stage.clock
