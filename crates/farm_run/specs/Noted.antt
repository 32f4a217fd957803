-- What is noted so far for the report of a run (this project's profile). `ds` are the orders that were executed, the
-- oldest first.
use Rattle.std.specs.Prelude.{◌≡◌, ℕ, ◌==◌, if◌then◌else◌, ◌≤◌, true, Bool, Some, is_some, IfSome, List, [], ◌∷◌, ◌++◌, slice_index_or}
use Rattle.trau_io.specs.declared.ends.CallEnd.{CallEnd}
use Rattle.switchboard.specs.declared.act.Act.{Act}
use Rattle.switchboard.specs.declared.act.Act.TheVariants as act
use Rattle.switchboard.specs.declared.act.Span.{Span}
use Rattle.switchboard.specs.declared.table.Bridge.{Bridge}
use Rattle.switchboard.specs.Calls.{Done, opened_at, has_ended, gone_at}
use Rattle.switchboard.specs.Bridges.{bridges, joins}
use Rattle.switchboard.specs.Stands.{IsLatest}
use Rattle.switchboard.specs.State.{State, end_told, first_stamp}
use Rattle.switchboard.specs.Open.{open_now}
use Rattle.switchboard.specs.Ends.{end_of, start_of}
use Rattle.call_leg.specs.Counted.{call_counts}
use Rattle.farm_rounds.specs.Calls.{Kept}
use Rattle.farm_rounds.specs.declared.tally.Tally.{Tally}
use Rattle.call_number.specs.CallNumber.{IsCallNumber}
use Rattle.farm_rounds.specs.Memory.{tally_in}
use Rattle.run_spec.specs.Run.{Run, given_in, whole_in, done_in, spans_in, periods_in}
use Rattle.run_spec.specs.Facts.{sent_by}
use Rattle.farm_run.specs.declared.notes.SentBefore.{SentBefore}
use Rattle.farm_run.specs.Match.{FollowsRun}

-- ---- the run's facts

-- the end of a call in the whole run
abbrev pub call_end_in : Run → ℕ → CallEnd
call_end_in r c = end_of (given_in r) r.periods (done_in r) c (start_of (done_in r) c)

abbrev pub no_span : Span
no_span = record { a = 0; b = 0; from = 0; to = 0 }

-- the span of the bridge at this index
abbrev pub span_numbered : Run → ℕ → Span
span_numbered r k = slice_index_or (spans_in r) k no_span

abbrev pub is_opened : List Done → ℕ → Bool
is_opened ds c = is_some (opened_at c ds)

-- what a call sends in the run's bridge at this index
abbrev pub sent_in_bridge : Run → ℕ → ℕ → ℕ
sent_in_bridge r k c = sent_by r (span_numbered r k) c

-- ---- what is noted of it

-- What is noted of an accepted order. `sent` is how many frames each call has sent in its latest bridge so far. When
-- two calls are bridged, this number is final for their bridges before.
abbrev pub noted_by : Act → (ℕ → ℕ) → List SentBefore → List SentBefore
noted_by (act.Bridged a b) sent notes = notes ++ record { by_a = sent a; by_b = sent b } ∷ []
noted_by _ sent notes = notes

-- what a note says of one of a bridge's two calls
abbrev pub sent_before : ℕ → Bridge → SentBefore → ℕ
sent_before c x n = if c == x.a then n.by_a else n.by_b

-- The notes of these bridges, which came behind those in `front`: each tells what each of its calls has sent in its
-- latest bridge before it. `sent_in` says what a call sends in the bridge at an index.
abbrev pub AreNotes : (ℕ → ℕ → ℕ) → List Bridge → List Bridge → List SentBefore → Type 0
AreNotes sent_in front (x ∷ xs) (n ∷ ns) =
    ((c k : ℕ) → joins c x ≡ true → IsLatest front c (Some k) → sent_before c x n ≡ sent_in k c)
    × AreNotes sent_in (front ++ x ∷ []) xs ns
AreNotes sent_in front [] [] = Unit {0}
AreNotes sent_in front _ _ = ⊥

-- The tally that is kept of a call is that of all its periods and of its latest bridge.
pub record IsKept (r : Run) (ds : List Done) (c : ℕ) (kept : Tally) : Type 0 where
  pub counts : kept.counts ≡ call_counts (periods_in r c)
  pub sent : (k : ℕ) → IsLatest (bridges ds) c (Some k) → kept.sent ≡ sent_in_bridge r k c

-- The notes and the tallies of a run in which these calls have ended.
pub record IsNoted (r : Run) (ds : List Done) (ended : ℕ → Bool) (notes : List SentBefore)
    (tally : ℕ → Tally) : Type 0 where
  pub numbers : (c : ℕ) → is_opened ds c ≡ true → IsCallNumber c
  pub bridges : AreNotes (sent_in_bridge r) [] (bridges ds) notes
  pub kept : (c : ℕ) → ended c ≡ true → IsKept r ds c (tally c)

-- the calls that have ended at the clock t
abbrev pub ended_at : Run → List Done → ℕ → ℕ → Bool
ended_at r ds t = has_ended (gone_at (whole_in r) t ds) ds

-- The notes and the farm's tallies at the clock t are right.
abbrev pub IsNotedAt : Run → List Done → ℕ → List SentBefore → List Tally → Type 0
IsNotedAt r ds t notes tallies = IsNoted r ds (ended_at r ds t) notes (tally_in tallies)

-- The ends that the board knows are the run's.
abbrev pub TellsTruly : Run → State → Type 0
TellsTruly r s = (c : ℕ) (e : CallEnd) → end_told s c ≡ Some e → e ≡ call_end_in r c

-- The ends that the board knows, the notes and the tallies are right at the clock t.
pub record IsKnown (r : Run) (t : ℕ) (b : State) (tallies : List Tally)
    (notes : List SentBefore) : Type 0 where
  pub truly : TellsTruly r b
  pub noted : IsNotedAt r b.done t notes tallies

-- A run that has come to its end at the clock t: no order before the run's end remains, and if a call is open, t is the
-- run's end. The board, the farm and the notes are right.
pub record IsAtEnd (r : Run) (t : ℕ) (b : State) (calls : List Kept) (tallies : List Tally)
    (notes : List SentBefore) : Type 0 where
  pub follows : FollowsRun r t b calls
  pub none_left : IfSome (first_stamp b.left) (λ s. r.periods ≤ s)
  pub clock : (c : ℕ) → open_now b c ≡ true → t ≡ r.periods
  pub truly : TellsTruly r b
  pub noted : IsNotedAt r b.done t notes tallies
