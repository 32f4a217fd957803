-- What a resumed run leaves and reports, whatever fails (this project's profile). It processes the same recordings from
-- the start, holds back the octets of the periods before the mark's, and compares the mark there. `before` are the
-- lines before it, `now` those after it.
use Rattle.std.specs.Prelude.{◌≡◌, ◌≢◌, ◌<◌, ◌≤◌, ℕ, ◌*◌, max, Bool, true, false, List, length, take, drop}
use Rattle.trau_io.specs.declared.line.Line.{Line}
use Rattle.trau_io.specs.declared.line.Side.{Side}
use Rattle.trau_io.specs.declared.line.Side.TheVariants.{Up, Pcm, Down, Out}
use Rattle.trau_io.specs.Lines.{LineState}
use Rattle.trau_orders.specs.declared.order.Order.{Order}
use Rattle.trau_orders.specs.Lists.{AreOrders}
use Rattle.round_lines.specs.Rounds.{IsIncoming, IsOutgoing}
use Rattle.farm_report.specs.View.{ReportView}
use Rattle.farm_checkpoint.specs.Marks.{MarkView}
use Rattle.farm_checkpoint.specs.Differences.{IsLeastDifference}
use Rattle.run_spec.specs.Run.{Run, end_in, IsOpened, cause_in, worked_to, periods_in}
use Rattle.run_spec.specs.Lines.{out_of_call, down_of_call}
use Rattle.run_spec.specs.Facts.{report_of}
use Rattle.run_spec.specs.Mark.{marked_calls}
use Rattle.farm_run.specs.declared.pace.Pace.{Pace}
use Rattle.farm_run.specs.declared.resuming.Resumed.{Resumed}
use Rattle.farm_run.specs.declared.resuming.Resumed.TheVariants.{Ran, Differs}
use Rattle.farm_run.specs.Runs.{TellsFailed, AreFailures, KeepsSides, ReadsOn, AreTold, IsRunOver, IsCutOff, IsReadTo, IsReadWhole, HasWritten, OnlyOpenedFail}
use Rattle.farm_run.specs.Runs.{FailedBy, FailedShort, ReadBy, ReadToEnd, is_listed}
use Rattle.farm_run.specs.Fronts.{HasFront}

-- What a run leaves on the lines if the outgoing octets of the periods before `from` are held back.
pub record LeavesFrom (r : Run) (from : ℕ) (fails : ℕ → Side → Bool)
    (before now : ℕ → Side → LineState) : Type 0 where
  -- the outgoing lines of each call that it opened have gained what the run gives them from there on
  pub out : (c : ℕ) → IsOpened r c →
      HasWritten (fails c Out) (before c Out) (now c Out)
      (drop (160 * worked_to r from c) (out_of_call r c))
  pub down : (c : ℕ) → IsOpened r c →
      HasWritten (fails c Down) (before c Down) (now c Down)
      (drop (40 * worked_to r from c) (down_of_call r c))
  -- if its lines didn't end a call, exactly the octets of its periods were read of its incoming lines
  pub up_read : (c : ℕ) → IsOpened r c → fails c Up ≡ false → IsCutOff (cause_in r c) →
      IsReadTo (now c Up) (40 * length (periods_in r c)) (r.lines c).up
  pub pcm_read : (c : ℕ) → IsOpened r c → fails c Pcm ≡ false → IsCutOff (cause_in r c) →
      IsReadTo (now c Pcm) (160 * length (periods_in r c)) (r.lines c).pcm
  -- the lines of all other calls are unchanged, their counts included
  pub others : (c : ℕ) (s : Side) → (IsOpened r c → ⊥) → now c s ≡ before c s

-- A resumed run that came to its end: the mark's period or the number of periods asked for, whichever is greater.
pub record ResumesRun (orders : List Order) (pace : Pace) (mark : MarkView)
    (before now : ℕ → Side → LineState) (report : ReportView) : Type 0 where
  -- the report lists the lines that failed
  pub failed : TellsFailed before now report.failed
  -- incoming lines are only read, from the start, and outgoing lines only written
  pub sides : KeepsSides before now
  pub reads : ReadsOn before now
  -- lines and report are those of the run of these orders over what the lines gave, without what was held back
  pub leaves : (r : Run) →
      IsRunOver orders (max mark.period pace.periods) (is_listed report.failed) before now r →
      LeavesFrom r mark.period (is_listed report.failed) before now
  pub reports : (r : Run) →
      IsRunOver orders (max mark.period pace.periods) (is_listed report.failed) before now r →
      report ≡ report_of r report.failed
  -- the run to the mark's period has the mark's calls
  pub same_mark : (r : Run) → IsRunOver orders mark.period (is_listed report.failed) before now r →
      marked_calls r ≡ mark.calls
  -- each line that failed is one of a call that the run opened; an incoming one gave fewer octets than its call takes
  -- up to some period, at most a batch after the call's end
  pub opened : (r : Run) →
      IsRunOver orders (max mark.period pace.periods) (is_listed report.failed) before now r →
      OnlyOpenedFail r (is_listed report.failed)
  pub short : (r : Run) →
      IsRunOver orders (max mark.period pace.periods) (is_listed report.failed) before now r →
      FailedShort r pace.batch (is_listed report.failed)
  -- of a call that its lines ended, exactly the octets up to such a period were read of its incoming lines that didn't
  -- fail
  pub read_past : (r : Run) →
      IsRunOver orders (max mark.period pace.periods) (is_listed report.failed) before now r →
      ReadToEnd r pace.batch (is_listed report.failed) now
  -- if the orders are in range and the contents of the incoming lines are known, such runs exist, up to any number of
  -- periods
  pub there : AreOrders orders → AreTold before → (periods : ℕ) →
      (r : Run) × IsRunOver orders periods (is_listed report.failed) before now r

-- A resumed run whose mark isn't that of these lines and orders. It wrote nothing. At the mark's period, `call` is the
-- least call number whose entries differ in the run and in the mark, or that only one of the two has.
pub record FindsDifference (orders : List Order) (pace : Pace) (mark : MarkView)
    (before now : ℕ → Side → LineState) (call : ℕ) : Type 0 where
  -- the lines that failed
  pub failed : List Line
  pub told : TellsFailed before now failed
  -- incoming lines were only read, from the start, and outgoing lines are unchanged, their counts included
  pub sides : KeepsSides before now
  pub reads : ReadsOn before now
  pub unwritten : (c : ℕ) (s : Side) → IsOutgoing s → now c s ≡ before c s
  -- this is the least difference for the run up to the mark's period, over what the lines gave
  pub differs : (r : Run) → IsRunOver orders mark.period (is_listed failed) before now r →
      IsLeastDifference mark.calls (marked_calls r) call
  -- if its lines didn't end a call, exactly the octets of its periods were read of its incoming lines
  pub up_read : (r : Run) → IsRunOver orders mark.period (is_listed failed) before now r →
      (c : ℕ) → IsOpened r c → is_listed failed c Up ≡ false → IsCutOff (cause_in r c) →
      IsReadTo (now c Up) (40 * length (periods_in r c)) (r.lines c).up
  pub pcm_read : (r : Run) → IsRunOver orders mark.period (is_listed failed) before now r →
      (c : ℕ) → IsOpened r c → is_listed failed c Pcm ≡ false → IsCutOff (cause_in r c) →
      IsReadTo (now c Pcm) (160 * length (periods_in r c)) (r.lines c).pcm
  -- the lines of calls that it doesn't open are unchanged
  pub others : (r : Run) → IsRunOver orders mark.period (is_listed failed) before now r →
      (c : ℕ) (s : Side) → (IsOpened r c → ⊥) → now c s ≡ before c s
  -- each line that failed is one of a call that the run opened; an incoming one gave fewer octets than its call takes
  -- up to some period, at most a batch after the call's end
  pub opened : (r : Run) → IsRunOver orders mark.period (is_listed failed) before now r →
      OnlyOpenedFail r (is_listed failed)
  pub short : (r : Run) → IsRunOver orders mark.period (is_listed failed) before now r →
      FailedShort r pace.batch (is_listed failed)
  -- of a call that its lines ended, exactly the octets up to such a period were read of its incoming lines that didn't
  -- fail
  pub read_past : (r : Run) → IsRunOver orders mark.period (is_listed failed) before now r →
      ReadToEnd r pace.batch (is_listed failed) now
  -- if the orders are in range and the contents of the incoming lines are known, such a run exists
  pub there : AreOrders orders → AreTold before →
      (r : Run) × IsRunOver orders mark.period (is_listed failed) before now r

-- the result of a resumed run
abbrev pub Resumes : List Order → Pace → MarkView →
    (ℕ → Side → LineState) → (ℕ → Side → LineState) → Resumed → Type 0
Resumes orders pace mark before now (Ran report) =
    ResumesRun orders pace mark before now report
Resumes orders pace mark before now (Differs call) =
    FindsDifference orders pace mark before now call

-- What a run leaves on the lines if it stops before its end, and the outgoing octets of the periods before `from` are
-- held back.
pub record LeavesFrontsFrom (r : Run) (from : ℕ) (fails : ℕ → Side → Bool)
    (before now : ℕ → Side → LineState) : Type 0 where
  -- the outgoing lines of each call that it opens have gained a prefix of what the run gives them from there on; those
  -- that failed, a proper prefix
  pub out : (c : ℕ) → IsOpened r c →
      HasFront (fails c Out) (before c Out) (now c Out)
      (drop (160 * worked_to r from c) (out_of_call r c))
  pub down : (c : ℕ) → IsOpened r c →
      HasFront (fails c Down) (before c Down) (now c Down)
      (drop (40 * worked_to r from c) (down_of_call r c))
  -- the lines of all other calls are unchanged, their counts included
  pub others : (c : ℕ) (s : Side) → (IsOpened r c → ⊥) → now c s ≡ before c s

-- What a run leaves on the lines if it stops at its period t, and the outgoing octets of the periods before `from` are
-- held back.
pub record StopsFrom (r : Run) (from t : ℕ) (fails : ℕ → Side → Bool)
    (before now : ℕ → Side → LineState) : Type 0 where
  -- the outgoing lines of each call that it opens have gained the octets of its periods from `from` on and before t,
  -- none if t comes first; those that failed, a proper prefix of them
  pub out : (c : ℕ) → IsOpened r c → HasWritten (fails c Out) (before c Out) (now c Out)
      (drop (160 * worked_to r from c) (take (160 * worked_to r t c) (out_of_call r c)))
  pub down : (c : ℕ) → IsOpened r c → HasWritten (fails c Down) (before c Down) (now c Down)
      (drop (40 * worked_to r from c) (take (40 * worked_to r t c) (down_of_call r c)))
  -- unless the call ended before t because of its lines, exactly the octets of its periods before t were read of its
  -- incoming lines
  pub up_read : (c : ℕ) → IsOpened r c → fails c Up ≡ false → IsReadWhole r t c →
      IsReadTo (now c Up) (40 * worked_to r t c) (r.lines c).up
  pub pcm_read : (c : ℕ) → IsOpened r c → fails c Pcm ≡ false → IsReadWhole r t c →
      IsReadTo (now c Pcm) (160 * worked_to r t c) (r.lines c).pcm
  -- the call of an incoming line that failed ended before t, by its lines and not by an order
  pub over : (c : ℕ) (s : Side) → IsIncoming s → fails c s ≡ true →
      (end_in r c < t) × (IsCutOff (cause_in r c) → ⊥)

-- A resumed run of these orders, in rounds of at most `batch` periods, that ran out of memory. There is no report, so
-- `fails` says which lines failed.
pub record IsResumeCutShort (orders : List Order) (batch periods : ℕ) (mark : MarkView)
    (before now : ℕ → Side → LineState) : Type 0 where
  -- the lines that failed
  pub fails : ℕ → Side → Bool
  pub told : AreFailures fails before now
  -- incoming lines were only read, from the start, and outgoing lines only written
  pub sides : KeepsSides before now
  pub reads : ReadsOn before now
  -- each outgoing line has gained a prefix of what the whole run, over what the lines gave, gives it from the mark's
  -- period on; a line that failed, a proper prefix. Except for `others`, that follows from `stops`.
  pub fronts : (r : Run) → IsRunOver orders periods fails before now r →
      LeavesFrontsFrom r mark.period fails before now
  -- it stopped at one period, the same for all lines
  pub clock : ℕ
  pub within : clock ≤ periods
  pub stops : (r : Run) → IsRunOver orders periods fails before now r →
      StopsFrom r mark.period clock fails before now
  -- each line that failed is one of a call that the run opens; an incoming one gave fewer octets than its call takes up
  -- to some period, at most a batch after the call's end and not after `clock`
  pub opened : (r : Run) → IsRunOver orders periods fails before now r → OnlyOpenedFail r fails
  pub short : (r : Run) → IsRunOver orders periods fails before now r → FailedBy r batch clock fails
  -- of a call that its lines ended before `clock`, exactly the octets up to such a period were read of its incoming
  -- lines that didn't fail
  pub read_past : (r : Run) → IsRunOver orders periods fails before now r →
      ReadBy r batch clock fails now
  -- if the run up to the mark's period hasn't the mark's calls, each outgoing line is unchanged, its counts included
  pub held : (r : Run) → IsRunOver orders mark.period fails before now r →
      marked_calls r ≢ mark.calls →
      (c : ℕ) (s : Side) → IsOutgoing s → now c s ≡ before c s
  -- if the orders are in range and the contents of the incoming lines are known, such runs exist, up to any number of
  -- periods
  pub there : AreOrders orders → AreTold before → (n : ℕ) →
      (r : Run) × IsRunOver orders n fails before now r
