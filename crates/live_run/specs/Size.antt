-- The numbers of a live drill (this project's profile).
use Rattle.std.specs.Prelude.{◌≤◌}
use Rattle.live_run.specs.declared.size.LiveDrill.{LiveDrill}

-- its numbers are in their ranges
pub record IsLiveDrill (d : LiveDrill) : Type 0 where
  pub some_calls : 1 ≤ d.calls
  pub calls : d.calls ≤ 256
  pub some_periods : 1 ≤ d.periods
  pub periods : d.periods ≤ 1000
  pub some_callers : 1 ≤ d.callers
  pub callers : d.callers ≤ 64
  pub some_room : 1 ≤ d.inbox
  pub inbox : d.inbox ≤ 1024
