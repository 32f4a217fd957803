-- The pace of a run (this project's profile).
use Rattle.std.specs.Prelude.{◌≤◌}
use Rattle.farm_run.specs.declared.pace.Pace.{Pace}

-- 1 to 64 workers, 1 to 250 periods in a round, at least one period in a slice, at least one in all
pub record IsPace (p : Pace) : Type 0 where
  pub some_workers : 1 ≤ p.workers
  pub few_workers : p.workers ≤ 64
  pub some_periods : 1 ≤ p.batch
  pub few_periods : p.batch ≤ 250
  pub slice : 1 ≤ p.slice
  pub periods : 1 ≤ p.periods
