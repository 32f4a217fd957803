-- The orders of a clock (this project's profile).
use Rattle.std.specs.Prelude.{◌≡◌, ◌<◌, ◌≤◌, ℕ, true, List, length}
use Rattle.switchboard.specs.State.{State, orders_of}
use Rattle.farm_rounds.specs.Memory.{FarmMemory}
use Rattle.run_spec.specs.Run.{Run}
use Rattle.farm_run.specs.declared.notes.SentBefore.{SentBefore}
use Rattle.farm_run.specs.Match.{AtClock, FollowsRun}
use Rattle.farm_run.specs.Noted.{IsNotedAt}
use Rattle.farm_run.specs.Standing.{is_over, KnowsListed}
use Rattle.farm_run.specs.Stages.{OpenedBefore}

-- board, farm and notes at the clock t, before one of its orders
pub record IsReady (t : ℕ) (b : State) (farm : FarmMemory) (notes : List SentBefore) : Type 0 where
  pub clock : AtClock t b farm.calls
  pub few : length (orders_of b) ≤ 65536
  pub bridges : length notes ≤ length b.done
  pub knows : KnowsListed b farm.failed

-- What stays of a board when orders of the clock t are executed.
pub record KeepsBoard (t : ℕ) (b b' : State) : Type 0 where
  -- no order is lost, and no end is reported
  pub kept : orders_of b' ≡ orders_of b
  pub told : b'.told ≡ b.told
  -- a call that has ended stays so
  pub over : (c : ℕ) → is_over b c ≡ true → is_over b' c ≡ true
  -- if each call that an order opened was opened before a period after t, that holds of the new ones too
  pub openings : (n : ℕ) → t < n → OpenedBefore n b.done → OpenedBefore n b'.done

-- Orders of the clock t were executed, from one state of board, farm and notes to another one.
pub record OrdersDone (t : ℕ) (b : State) (farm : FarmMemory) (notes : List SentBefore)
    (b' : State) (farm' : FarmMemory) (notes' : List SentBefore) : Type 0 where
  pub ready : IsReady t b' farm' notes'
  pub board : KeepsBoard t b b'
  pub ended : farm'.ended ≡ farm.ended
  pub failed : farm'.failed ≡ farm.failed
  -- board and farm follow the run as before, and what is noted and kept stays right
  pub follows : (r : Run) → t < r.periods → FollowsRun r t b farm.calls →
      FollowsRun r t b' farm'.calls
  pub noted : (r : Run) → t < r.periods → FollowsRun r t b farm.calls →
      IsNotedAt r b.done t notes farm.tallies →
      IsNotedAt r b'.done t notes' farm'.tallies
