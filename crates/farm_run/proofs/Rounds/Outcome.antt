-- What a round of n periods, from the clock t on, reports and keeps of the calls that end in it because of their lines.
use Rattle.std.proofs.Common.{◌≡◌, ℕ, ◌+◌, ◌-◌, true, false, List}
use Rattle.std.specs.List.{AllByRecursion}
use Rattle.trau_io.specs.declared.ends.CallEnd.{CallEnd}
use Rattle.switchboard.specs.Calls.{Done}
use Rattle.switchboard.specs.Ends.{start_of, end_of}
use Rattle.switchboard.specs.State.{State}
use Rattle.call_leg.specs.Settings.{Settings}
use Rattle.farm_rounds.specs.declared.tally.Tally.{Tally}
use Rattle.farm_rounds.specs.Memory.{tally_in}
use Rattle.farm_rounds.specs.Histories.{tally_of}
use Rattle.run_spec.specs.Run.{Run, given_in, done_in, periods_to}
use Rattle.run_spec.specs.Now.{settings_now}
use Rattle.farm_run.specs.Ending.{AreApart, told_after, is_told}
use Rattle.farm_run.proofs.Rounds.Taken.{places_in, ends_within}

-- The end that a round reports of such a call is the run's.
abbrev pub IsRoundEnd : Run → List Done → ℕ → ℕ → CallEnd → Type 0
IsRoundEnd r ds t n e = (ends_within r ds t n e.call ≡ true)
    × (e ≡ end_of (given_in r) r.periods (done_in r) e.call (start_of ds e.call))

-- The tallies that the round keeps: those of these calls.
pub record KeepsTallies (r : Run) (t n : ℕ) (ds : List Done) (before now : List Tally) : Type 0 where
  -- the tallies over all periods of these calls, with settings whose `starts` is the run's
  pub ended : (c : ℕ) → ends_within r ds t n c ≡ true →
      (last : Settings) × (last.starts ≡ (settings_now r ds (t + places_in r ds t n c) c).starts)
      × (tally_in now c ≡ tally_of (periods_to r c (t + places_in r ds t n c - start_of ds c)) last)
  -- the tallies of all others are unchanged
  pub others : (c : ℕ) → ends_within r ds t n c ≡ false → tally_in now c ≡ tally_in before c

-- What the round reports to the board and keeps of these calls.
pub record EndsRound (r : Run) (t n : ℕ) (was is : State) (before now : List Tally) : Type 0 where
  -- the ends that are reported to the board
  pub ends : List CallEnd
  pub board : is ≡ told_after was ends
  -- they are the run's ends of exactly these calls, one for each
  pub each : AllByRecursion (IsRoundEnd r was.done t n) ends
  pub apart : AreApart ends
  pub told : (c : ℕ) → is_told c ends ≡ ends_within r was.done t n c
  pub tallies : KeepsTallies r t n was.done before now
