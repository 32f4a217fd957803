-- A run at one of its clocks, and how it gets from one to a later one (this project's profile).
use Rattle.std.specs.Prelude.{◌≡◌, ◌<◌, ◌≤◌, ℕ, Bool, true, false, None, List, [], length}
use Rattle.trau_io.specs.declared.line.Side.{Side}
use Rattle.trau_io.specs.declared.line.Side.TheVariants.{Down, Out}
use Rattle.trau_io.specs.Lines.{LineState}
use Rattle.trau_orders.specs.declared.order.Order.{Order}
use Rattle.round_lines.specs.Rounds.{IsOutgoing}
use Rattle.switchboard.specs.Calls.{Done}
use Rattle.switchboard.specs.Ends.{start_of}
use Rattle.switchboard.specs.State.{EndBefore, orders_of}
use Rattle.farm_report.specs.Sums.{sum_of}
use Rattle.farm_rounds.specs.Histories.{CallsStand}
use Rattle.run_spec.specs.Run.{Run, periods_to, who_in, IsOpened, worked_to}
use Rattle.run_spec.specs.Lines.{out_line, down_octets}
use Rattle.farm_run.specs.declared.outgoing.Outgoing.{Outgoing}
use Rattle.farm_run.specs.declared.stage.Stage.{Stage}
use Rattle.farm_run.specs.Match.{AtClock}
use Rattle.farm_run.specs.Noted.{IsKnown}
use Rattle.farm_run.specs.Outgoing.{is_held, is_summed, sum_to, IsSameWay}
use Rattle.farm_run.specs.Runs.{TellsFailed, KeepsSides, FailedBy, ReadBy, is_listed}
use Rattle.farm_run.specs.Standing.{Standing, standing, StandingGoesOn, KnowsListed, HasFlags}
use Rattle.farm_run.specs.Clock.{NeverFell, IsAtClock, WrittenFrom}

-- ---- one clock

-- what holds at each clock of a run, whatever its lines give
pub record IsStage (s : Stage) : Type 0 where
  pub clock : AtClock s.clock s.board s.farm.calls
  pub bridges : length s.notes ≤ length s.board.done
  pub ended : s.farm.ended ≤ s.clock
  pub knows : KnowsListed s.board s.farm.failed
  pub few : length (orders_of s.board) ≤ 65536

-- the run of these orders, before the first of them
pub record IsFirstStage (listed : List Order) (outgoing : Outgoing) (s : Stage) : Type 0 where
  pub stage : IsStage s
  pub clock : s.clock ≡ 0
  pub orders : orders_of s.board ≡ listed
  pub none_done : s.board.done ≡ []
  pub untold : EndBefore 0 s.board
  pub none_open : s.farm.calls ≡ []
  pub none_failed : s.farm.failed ≡ []
  pub histories : CallsStand (λ c. None) s.farm.calls
  pub none_noted : s.notes ≡ []
  pub way : s.outgoing ≡ outgoing

-- each call that an order opened was opened before this period
abbrev pub OpenedBefore : ℕ → List Done → Type 0
OpenedBefore n ds = (c : ℕ) → start_of ds c < n

-- the sums of the outgoing lines of the run's calls are those of all octets that their periods before the clock t give
pub record SumsAt (r : Run) (t : ℕ) (sums : ℕ → Side → ℕ) : Type 0 where
  pub out : (c : ℕ) → IsOpened r c →
      sums c Out ≡ sum_of (out_line (who_in r c) (periods_to r c (worked_to r t c)))
  pub down : (c : ℕ) → IsOpened r c →
      sums c Down ≡ sum_of (down_octets (who_in r c) (periods_to r c (worked_to r t c)))

-- ---- from one clock to a later one

-- outgoing lines are unchanged, and the same ones are listed as failed
pub record HoldsBack (was is : ℕ → Side → Bool) (before now : ℕ → Side → LineState) : Type 0 where
  pub lines : (c : ℕ) (s : Side) → IsOutgoing s → now c s ≡ before c s
  pub listed : (c : ℕ) (s : Side) → IsOutgoing s → is c s ≡ was c s

-- A line that was listed as failed is unchanged, its fault count included, and it is still listed.
pub record NoneUsedAgain (was is : ℕ → Side → Bool) (before now : ℕ → Side → LineState) : Type 0 where
  pub lines : (c : ℕ) (s : Side) → was c s ≡ true → now c s ≡ before c s
  pub listed : (c : ℕ) (s : Side) → was c s ≡ true → is c s ≡ true

-- This holds of each run that was at the clock of s, and goes on from u to its end. `first` are the lines before the
-- run, and `last` is its state at its end.
abbrev pub InEachRun : Stage → Stage → (ℕ → Side → LineState) → (ℕ → Side → LineState) →
    (Run → (ℕ → Side → LineState) → Standing → Type 0) → Type 0
InEachRun s u before now Holds =
    (r : Run) (first : ℕ → Side → LineState) (last : Standing) → HasFlags r last →
    u.clock ≤ r.periods → StandingGoesOn (standing u.board u.farm.failed now) last →
    IsAtClock r s.clock s.board s.farm.calls last first before → Holds r first last

-- From a clock of a run to a later one, with rounds of at most `batch` periods.
pub record Reaches (batch : ℕ) (s u : Stage) (before now : ℕ → Side → LineState) : Type 0 where
  pub later : s.clock ≤ u.clock
  pub stage : IsStage u
  pub kept : orders_of u.board ≡ orders_of s.board
  pub way : IsSameWay s.outgoing u.outgoing
  pub openings : (n : ℕ) → u.clock ≤ n → OpenedBefore n s.board.done → OpenedBefore n u.board.done
  -- the farm still lists exactly the lines whose fault counts rose; incoming lines are only read, and outgoing lines
  -- only written
  pub fell : NeverFell before now
  pub failed : (first : ℕ → Side → LineState) → NeverFell first before →
      TellsFailed first before s.farm.failed → TellsFailed first now u.farm.failed
  pub sides : KeepsSides before now
  pub goes : StandingGoesOn (standing s.board s.farm.failed before)
      (standing u.board u.farm.failed now)
  pub back : is_held s.outgoing ≡ true →
      HoldsBack (is_listed s.farm.failed) (is_listed u.farm.failed) before now
  -- a line that failed isn't used in a later round
  pub unused : NoneUsedAgain (is_listed s.farm.failed) (is_listed u.farm.failed) before now
  -- board, farm and incoming lines are still the run's
  pub run : InEachRun s u before now
      (λ r first last. IsAtClock r u.clock u.board u.farm.calls last first now)
  -- what is noted and kept
  pub known : InEachRun s u before now (λ r first last.
      IsKnown r s.clock s.board s.farm.tallies s.notes →
      IsKnown r u.clock u.board u.farm.tallies u.notes)
  -- what is written from any earlier period on
  pub wrote : is_held s.outgoing ≡ false → (from : ℕ) → from ≤ s.clock →
      InEachRun s u before now (λ r first last.
      WrittenFrom r from s.clock (is_listed s.farm.failed) first before →
      WrittenFrom r from u.clock (is_listed u.farm.failed) first now)
  -- the sums
  pub sums : is_summed s.outgoing ≡ true → InEachRun s u before now (λ r first last.
      SumsAt r s.clock (sum_to s.outgoing) → SumsAt r u.clock (sum_to u.outgoing))
  -- where incoming lines failed
  pub short : InEachRun s u before now (λ r first last.
      FailedBy r batch s.clock (is_listed s.farm.failed) →
      FailedBy r batch u.clock (is_listed u.farm.failed))
  -- what was read of the incoming lines of calls that their lines ended
  pub read_past : InEachRun s u before now (λ r first last.
      ReadBy r batch s.clock last.listed before → ReadBy r batch u.clock last.listed now)
