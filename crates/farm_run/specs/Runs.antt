-- What a run leaves on the lines of its calls, and what it reports, whatever fails (this project's profile). `before`
-- are the lines before it, `now` those after it.
use Rattle.std.specs.Prelude.{◌≡◌, ◌⊎◌, ◌<◌, ◌≤◌, ℕ, ◌+◌, ◌-◌, ◌*◌, Bool, true, false, Some, List, ◌++◌, length, map, drop}
use Rattle.std.specs.List.Sorted.{IsStrictlyIncreasing}
use Rattle.trau_io.specs.declared.line.Line.{Line}
use Rattle.trau_io.specs.declared.line.Side.{Side}
use Rattle.trau_io.specs.declared.line.Side.TheVariants.{Up, Pcm, Down, Out}
use Rattle.trau_io.specs.declared.ends.Cause.{Cause}
use Rattle.trau_io.specs.declared.ends.Cause.TheVariants.{Closed, End, Fault, Limit}
use Rattle.trau_io.specs.Lines.{LineState, Rose, NotRose}
use Rattle.trau_io.specs.Indices.{index_of_line}
use Rattle.call_number.specs.CallNumber.{IsCallNumber}
use Rattle.trau_orders.specs.declared.order.Order.{Order}
use Rattle.trau_orders.specs.Lists.{AreOrders}
use Rattle.farm_report.specs.View.{ReportView}
use Rattle.round_lines.specs.Rounds.{IsIncoming, IsOutgoing}
use Rattle.run_spec.specs.Run.{Run, start_in, end_in, periods_in, IsOpened, cause_in}
use Rattle.run_spec.specs.Lines.{out_of_call, down_of_call}
use Rattle.run_spec.specs.Facts.{report_of}
use Rattle.farm_run.specs.declared.pace.Pace.{Pace}
-- `is_listed lines c s`: whether `lines` has the line of call c on side s
pub use Rattle.farm_rounds.specs.Failed.{is_listed}
-- `HasWritten failed before now octets`: an outgoing line has gained all these octets; if it failed, a proper prefix of
-- them
pub use Rattle.round_lines.specs.Transfer.{HasWritten}

-- ---- the lines that failed

-- The fault count of each line that failed rose, and that of each other line is unchanged.
pub record AreFailures (fails : ℕ → Side → Bool) (before now : ℕ → Side → LineState) : Type 0 where
  pub rose : (c : ℕ) (s : Side) → fails c s ≡ true → Rose (before c s).faults (now c s).faults
  pub kept : (c : ℕ) (s : Side) → fails c s ≡ false → (now c s).faults ≡ (before c s).faults

-- These are the lines that failed, each once, in call-number order, and a call's in the order Up, Pcm, Down, Out.
pub record TellsFailed (before now : ℕ → Side → LineState) (lines : List Line) : Type 0 where
  pub failures : AreFailures (is_listed lines) before now
  pub order : IsStrictlyIncreasing (map (λ l. index_of_line l.call l.side) lines)

-- no line failed
abbrev pub none_fails : ℕ → Side → Bool
none_fails c s = false

-- no fault count of a line rose, and none is at its last value
abbrev pub NoneRose : (ℕ → Side → LineState) → (ℕ → Side → LineState) → Type 0
NoneRose before now = (c : ℕ) (s : Side) → NotRose (before c s).faults (now c s).faults

-- ---- what is read and written at all

-- No incoming line was written, and no outgoing line was read.
pub record KeepsSides (before now : ℕ → Side → LineState) : Type 0 where
  pub incoming : (c : ℕ) (s : Side) → IsIncoming s → (now c s).written ≡ (before c s).written
  pub outgoing : (c : ℕ) (s : Side) → IsOutgoing s → (now c s).to_come ≡ (before c s).to_come

-- If the contents of an incoming line were known, some octets at its start were read, and the others are known.
abbrev pub ReadsOn : (ℕ → Side → LineState) → (ℕ → Side → LineState) → Type 0
ReadsOn before now =
    (c : ℕ) (s : Side) (octets : List ℕ) → IsIncoming s → (before c s).to_come ≡ Some octets →
    (k : ℕ) × ((now c s).to_come ≡ Some (drop k octets))

-- the contents of the incoming lines of all calls are known
abbrev pub AreTold : (ℕ → Side → LineState) → Type 0
AreTold lines = (c : ℕ) (s : Side) → IsCallNumber c → IsIncoming s →
    (octets : List ℕ) × ((lines c s).to_come ≡ Some octets)

-- ---- the run of the definition; `fails` says which lines failed in it

-- The octets of an incoming line are its contents. If a read of it failed in the run, they are the octets that were
-- read before: a line that failed isn't read again, so the others are still to come.
abbrev pub IsGiven : Bool → LineState → LineState → List ℕ → Type 0
IsGiven false before now octets = before.to_come ≡ Some octets
IsGiven true before now octets =
    (rest : List ℕ) × (before.to_come ≡ Some (octets ++ rest)) × (now.to_come ≡ Some rest)

-- The run of these orders, up to this number of periods, over what these lines gave until they ended or failed.
pub record IsRunOver (orders : List Order) (periods : ℕ) (fails : ℕ → Side → Bool)
    (before now : ℕ → Side → LineState) (r : Run) : Type 0 where
  pub same_orders : r.orders ≡ orders
  pub same_periods : r.periods ≡ periods
  -- the incoming lines of the calls that it opens
  pub up : (c : ℕ) → IsOpened r c → IsGiven (fails c Up) (before c Up) (now c Up) (r.lines c).up
  pub pcm : (c : ℕ) → IsOpened r c →
      IsGiven (fails c Pcm) (before c Pcm) (now c Pcm) (r.lines c).pcm
  pub up_failed : (c : ℕ) → (r.lines c).up_failed ≡ fails c Up
  pub pcm_failed : (c : ℕ) → (r.lines c).pcm_failed ≡ fails c Pcm

-- the call's lines didn't end it: an order closed it, or the run ended
abbrev pub IsCutOff : Cause → Type 0
IsCutOff Closed = Unit {0}
IsCutOff Limit = Unit {0}
IsCutOff (End side left) = ⊥
IsCutOff (Fault side) = ⊥

-- The call goes on up to period t, or its lines didn't end it. Then exactly the octets of its periods before t are
-- read.
abbrev pub IsReadWhole : Run → ℕ → ℕ → Type 0
IsReadWhole r t c = (t ≤ end_in r c) ⊎ IsCutOff (cause_in r c)

-- the line's contents were these octets, and exactly the first n were read
abbrev pub IsReadTo : LineState → ℕ → List ℕ → Type 0
IsReadTo now n octets = now.to_come ≡ Some (drop n octets)

-- What a run leaves on the lines.
pub record Leaves (r : Run) (fails : ℕ → Side → Bool)
    (before now : ℕ → Side → LineState) : Type 0 where
  -- the outgoing lines of each call that it opened have gained what the run gives them
  pub out : (c : ℕ) → IsOpened r c →
      HasWritten (fails c Out) (before c Out) (now c Out) (out_of_call r c)
  pub down : (c : ℕ) → IsOpened r c →
      HasWritten (fails c Down) (before c Down) (now c Down) (down_of_call r c)
  -- if its lines didn't end a call, exactly the octets of its periods were read of its incoming lines
  pub up_read : (c : ℕ) → IsOpened r c → fails c Up ≡ false → IsCutOff (cause_in r c) →
      IsReadTo (now c Up) (40 * length (periods_in r c)) (r.lines c).up
  pub pcm_read : (c : ℕ) → IsOpened r c → fails c Pcm ≡ false → IsCutOff (cause_in r c) →
      IsReadTo (now c Pcm) (160 * length (periods_in r c)) (r.lines c).pcm
  -- the lines of all other calls are unchanged, their counts included
  pub others : (c : ℕ) (s : Side) → (IsOpened r c → ⊥) → now c s ≡ before c s

-- each line that failed is one of a call that the run opened
abbrev pub OnlyOpenedFail : Run → (ℕ → Side → Bool) → Type 0
OnlyOpenedFail r fails = (c : ℕ) (s : Side) → fails c s ≡ true → IsOpened r c

-- A line of a call that ended from period `from` of the run on and before `until`, because of its lines and not by an
-- order. In all, the line gave fewer octets than the call's periods before `until` take (`octets` each).
pub record FailedIn (r : Run) (c octets : ℕ) (line : List ℕ) (from until : ℕ) : Type 0 where
  pub begun : from ≤ end_in r c
  pub over : end_in r c < until
  pub by_lines : IsCutOff (cause_in r c) → ⊥
  pub short : length line < octets * (until - start_in r c)

-- each incoming line that failed is such a line, for some `from` and `until`, at most `batch` periods apart and not
-- after period t
pub record FailedBy (r : Run) (batch t : ℕ) (fails : ℕ → Side → Bool) : Type 0 where
  pub up : (c : ℕ) → fails c Up ≡ true →
      (from : ℕ) × (until : ℕ) × (until ≤ from + batch) × (until ≤ t)
      × FailedIn r c 40 (r.lines c).up from until
  pub pcm : (c : ℕ) → fails c Pcm ≡ true →
      (from : ℕ) × (until : ℕ) × (until ≤ from + batch) × (until ≤ t)
      × FailedIn r c 160 (r.lines c).pcm from until

-- in a run that came to its end, each incoming line that failed is such a line
abbrev pub FailedShort : Run → ℕ → (ℕ → Side → Bool) → Type 0
FailedShort r batch fails = FailedBy r batch r.periods fails

-- A call ended from period `from` of the run on and before `until`. Of its incoming lines that didn't fail exactly the
-- octets of its periods before `until` were read; of a line that has fewer, all.
pub record ReadIn (r : Run) (c : ℕ) (fails : ℕ → Side → Bool) (now : ℕ → Side → LineState)
    (from until : ℕ) : Type 0 where
  pub begun : from ≤ end_in r c
  pub over : end_in r c < until
  pub up : fails c Up ≡ false → IsReadTo (now c Up) (40 * (until - start_in r c)) (r.lines c).up
  pub pcm : fails c Pcm ≡ false →
      IsReadTo (now c Pcm) (160 * (until - start_in r c)) (r.lines c).pcm

-- a call ended so for some `from` and `until`, at most `batch` periods apart and not after period t
abbrev pub ReadPast : Run → ℕ → ℕ → (ℕ → Side → Bool) → (ℕ → Side → LineState) → ℕ → Type 0
ReadPast r batch t fails now c =
    (from : ℕ) × (until : ℕ) × (until ≤ from + batch) × (until ≤ t)
    × ReadIn r c fails now from until

-- each call that its lines ended before period t was read so
abbrev pub ReadBy : Run → ℕ → ℕ → (ℕ → Side → Bool) → (ℕ → Side → LineState) → Type 0
ReadBy r batch t fails now = (c : ℕ) → IsOpened r c → end_in r c < t →
    (IsCutOff (cause_in r c) → ⊥) → ReadPast r batch t fails now c

-- in a run that came to its end, each call that its lines ended was read so
abbrev pub ReadToEnd : Run → ℕ → (ℕ → Side → Bool) → (ℕ → Side → LineState) → Type 0
ReadToEnd r batch fails now = (c : ℕ) → IsOpened r c → (IsCutOff (cause_in r c) → ⊥) →
    ReadPast r batch r.periods fails now c

-- A run of these orders, whatever fails.
pub record Runs (orders : List Order) (pace : Pace) (before now : ℕ → Side → LineState)
    (report : ReportView) : Type 0 where
  -- the report lists the lines that failed
  pub failed : TellsFailed before now report.failed
  -- incoming lines are only read, from the start, and outgoing lines only written
  pub sides : KeepsSides before now
  pub reads : ReadsOn before now
  -- lines and report are those of the run of these orders over what the lines gave
  pub leaves : (r : Run) → IsRunOver orders pace.periods (is_listed report.failed) before now r →
      Leaves r (is_listed report.failed) before now
  pub reports : (r : Run) → IsRunOver orders pace.periods (is_listed report.failed) before now r →
      report ≡ report_of r report.failed
  -- each line that failed is one of a call that the run opened; an incoming one gave fewer octets than its call takes
  -- up to some period, at most a batch after the call's end
  pub opened : (r : Run) → IsRunOver orders pace.periods (is_listed report.failed) before now r →
      OnlyOpenedFail r (is_listed report.failed)
  pub short : (r : Run) → IsRunOver orders pace.periods (is_listed report.failed) before now r →
      FailedShort r pace.batch (is_listed report.failed)
  -- of a call that its lines ended, exactly the octets up to such a period were read of its incoming lines that didn't
  -- fail
  pub read_past : (r : Run) → IsRunOver orders pace.periods (is_listed report.failed) before now r →
      ReadToEnd r pace.batch (is_listed report.failed) now
  -- if the orders are in range and the contents of the incoming lines are known, such a run exists
  pub there : AreOrders orders → AreTold before →
      (r : Run) × IsRunOver orders pace.periods (is_listed report.failed) before now r
