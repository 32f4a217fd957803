-- What holds at the clock t of a run (this project's profile). `before` are the lines before the run, `now` those at
-- the clock.
use Rattle.std.specs.Prelude.{◌≡◌, ◌≤◌, ◌*◌, ℕ, Bool, List, drop}
use Rattle.trau_io.specs.declared.line.Side.{Side}
use Rattle.trau_io.specs.declared.line.Side.TheVariants.{Up, Pcm, Down, Out}
use Rattle.trau_io.specs.Lines.{LineState}
use Rattle.switchboard.specs.State.{State}
use Rattle.run_spec.specs.Run.{Run, periods_to, who_in, IsOpened, worked_to}
use Rattle.run_spec.specs.Lines.{out_line, down_octets}
use Rattle.farm_rounds.specs.Calls.{Kept}
use Rattle.farm_run.specs.Match.{FollowsRun}
use Rattle.farm_run.specs.Runs.{HasWritten, IsReadWhole}
use Rattle.farm_run.specs.Standing.{Standing, IsToCome, never_given}

-- What the lines of the run's calls have given at the clock. `last` is the state of the run at its end.
pub record LinesAt (r : Run) (t : ℕ) (last : Standing)
    (before now : ℕ → Side → LineState) : Type 0 where
  -- an incoming line has given the octets of its call's periods before the clock; still to come are the run's other
  -- octets, followed by those that the line never gives
  pub up_read : (c : ℕ) → IsOpened r c → IsReadWhole r t c →
      IsToCome (now c Up) (40 * worked_to r t c) (r.lines c).up
      (never_given (last.listed c Up) (last.lines c Up))
  pub pcm_read : (c : ℕ) → IsOpened r c → IsReadWhole r t c →
      IsToCome (now c Pcm) (160 * worked_to r t c) (r.lines c).pcm
      (never_given (last.listed c Pcm) (last.lines c Pcm))
  -- the lines of calls that the run doesn't open are unchanged
  pub others : (c : ℕ) (s : Side) → (IsOpened r c → ⊥) → now c s ≡ before c s

-- What the outgoing lines of the run's calls have gained at the clock t: the octets of their periods from period `from`
-- of the run on and before t. The lines that are listed as failed have gained a proper prefix of them.
pub record WrittenFrom (r : Run) (from t : ℕ) (listed : ℕ → Side → Bool)
    (before now : ℕ → Side → LineState) : Type 0 where
  pub out : (c : ℕ) → IsOpened r c → HasWritten (listed c Out) (before c Out) (now c Out)
      (drop (160 * worked_to r from c) (out_line (who_in r c) (periods_to r c (worked_to r t c))))
  pub down : (c : ℕ) → IsOpened r c → HasWritten (listed c Down) (before c Down) (now c Down)
      (drop (40 * worked_to r from c) (down_octets (who_in r c) (periods_to r c (worked_to r t c))))

-- no fault count of a line has fallen
abbrev pub NeverFell : (ℕ → Side → LineState) → (ℕ → Side → LineState) → Type 0
NeverFell before now = (c : ℕ) (s : Side) → (before c s).faults ≤ (now c s).faults

-- board, farm and lines are those of the run at its clock
pub record IsAtClock (r : Run) (t : ℕ) (b : State) (calls : List Kept) (last : Standing)
    (before now : ℕ → Side → LineState) : Type 0 where
  pub follows : FollowsRun r t b calls
  pub lines : LinesAt r t last before now
