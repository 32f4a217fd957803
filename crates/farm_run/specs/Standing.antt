-- How a run goes on from one clock to a later one, whatever fails, and what an incoming line never gives in it (this
-- project's profile).
use Rattle.std.specs.Prelude.{◌≡◌, ℕ, Bool, true, false, ◌||◌, Some, is_some, unwrap_or, List, [], ◌++◌, drop}
use Rattle.trau_io.specs.declared.line.Line.{Line}
use Rattle.trau_io.specs.declared.line.Side.{Side}
use Rattle.trau_io.specs.declared.line.Side.TheVariants.{Up, Pcm}
use Rattle.trau_io.specs.Lines.{LineState}
use Rattle.round_lines.specs.Rounds.{IsIncoming}
use Rattle.switchboard.specs.Calls.{closed_at}
use Rattle.switchboard.specs.State.{State, gone_in}
use Rattle.switchboard.specs.Open.{opened_now}
use Rattle.run_spec.specs.Run.{Run}
use Rattle.farm_run.specs.Runs.{is_listed, ReadsOn}

-- ---- what is known at a clock

-- the call has ended, by an order or because of its lines
abbrev pub is_over : State → ℕ → Bool
is_over b c = gone_in b c || is_some (closed_at c b.done)

-- The state of a run at a clock.
pub record Standing : Type 0 where
  -- which calls have ended
  pub over : ℕ → Bool
  -- which lines are listed as failed
  pub listed : ℕ → Side → Bool
  pub lines : ℕ → Side → LineState

abbrev pub standing : State → List Line → (ℕ → Side → LineState) → Standing
standing b failed now = record { over = is_over b; listed = is_listed failed; lines = now }

-- From one clock of a run to a later one.
pub record StandingGoesOn (before now : Standing) : Type 0 where
  -- a call that has ended stays so
  pub over : (c : ℕ) → before.over c ≡ true → now.over c ≡ true
  -- incoming lines are only read, from the start
  pub read_on : ReadsOn before.lines now.lines
  -- the incoming lines of a call that has ended are neither read again nor newly listed
  pub lines : (c : ℕ) (s : Side) → IsIncoming s → before.over c ≡ true →
      (now.lines c s).to_come ≡ (before.lines c s).to_come
  pub listed : (c : ℕ) (s : Side) → IsIncoming s → before.over c ≡ true →
      now.listed c s ≡ before.listed c s

-- What the board knows of the lines that are listed as failed. So an incoming line that failed isn't read in a later
-- round.
pub record KnowsListed (b : State) (failed : List Line) : Type 0 where
  -- an order opened the line's call
  pub opened : (c : ℕ) (s : Side) → is_listed failed c s ≡ true → opened_now b c ≡ true
  -- an incoming line ended its call, and the board knows this
  pub ended : (c : ℕ) (s : Side) → IsIncoming s → is_listed failed c s ≡ true → gone_in b c ≡ true

-- ---- what a line gives

-- The octets that an incoming line never gives in a run: if it fails in the run, those that are still to come at the
-- run's end.
abbrev pub never_given : Bool → LineState → List ℕ
never_given false last = []
never_given true last = unwrap_or last.to_come []

-- The run's first k octets of a line were read: still to come are the run's others, followed by those that the line
-- never gives.
abbrev pub IsToCome : LineState → ℕ → List ℕ → List ℕ → Type 0
IsToCome now k line rest = now.to_come ≡ Some (drop k line ++ rest)

-- ---- the run's end

-- the run's incoming lines fail exactly if they are listed at its end
pub record HasFlags (r : Run) (last : Standing) : Type 0 where
  pub up : (c : ℕ) → (r.lines c).up_failed ≡ last.listed c Up
  pub pcm : (c : ℕ) → (r.lines c).pcm_failed ≡ last.listed c Pcm
