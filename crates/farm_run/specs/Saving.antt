-- What a run leaves on the lines, and its mark, if it is marked at its end, whatever fails (this project's profile).
-- `before` are the lines before it, `now` those after it.
use Rattle.std.specs.Prelude.{◌≡◌, ℕ, List}
use Rattle.trau_io.specs.declared.line.Line.{Line}
use Rattle.trau_io.specs.declared.line.Side.{Side}
use Rattle.trau_io.specs.Lines.{LineState}
use Rattle.trau_orders.specs.declared.order.Order.{Order}
use Rattle.trau_orders.specs.Lists.{AreOrders}
use Rattle.farm_checkpoint.specs.Marks.{MarkView, AreOpenAtMark}
use Rattle.run_spec.specs.Run.{Run}
use Rattle.run_spec.specs.Mark.{mark_of}
use Rattle.farm_run.specs.declared.pace.Pace.{Pace}
use Rattle.farm_run.specs.Runs.{TellsFailed, KeepsSides, ReadsOn, AreTold, IsRunOver, Leaves, OnlyOpenedFail, FailedShort, ReadToEnd, is_listed}

-- what is seen of it: the lines that failed, and the mark
pub record SavedView : Type 0 where
  pub failed : List Line
  pub mark : MarkView

-- A run of these orders that came to its end and was marked there.
pub record Saves (orders : List Order) (pace : Pace) (before now : ℕ → Side → LineState)
    (saved : SavedView) : Type 0 where
  -- the lines that failed are listed
  pub failed : TellsFailed before now saved.failed
  -- incoming lines are only read, from the start, and outgoing lines only written
  pub sides : KeepsSides before now
  pub reads : ReadsOn before now
  -- lines and mark are those of the run of these orders over what the lines gave
  pub leaves : (r : Run) → IsRunOver orders pace.periods (is_listed saved.failed) before now r →
      Leaves r (is_listed saved.failed) before now
  pub marks : (r : Run) → IsRunOver orders pace.periods (is_listed saved.failed) before now r →
      saved.mark ≡ mark_of r
  -- each line that failed is one of a call that the run opened; an incoming one gave fewer octets than its call takes
  -- up to some period, at most a batch after the call's end
  pub opened : (r : Run) → IsRunOver orders pace.periods (is_listed saved.failed) before now r →
      OnlyOpenedFail r (is_listed saved.failed)
  pub short : (r : Run) → IsRunOver orders pace.periods (is_listed saved.failed) before now r →
      FailedShort r pace.batch (is_listed saved.failed)
  -- of a call that its lines ended, exactly the octets up to such a period were read of its incoming lines that didn't
  -- fail
  pub read_past : (r : Run) → IsRunOver orders pace.periods (is_listed saved.failed) before now r →
      ReadToEnd r pace.batch (is_listed saved.failed) now
  -- if the orders are in range and the contents of the incoming lines are known, such a run exists
  pub there : AreOrders orders → AreTold before →
      (r : Run) × IsRunOver orders pace.periods (is_listed saved.failed) before now r
  -- in any case the mark is one that may be written: its period is that of the run's end, and its calls began before it
  pub period : saved.mark.period ≡ pace.periods
  pub are_open : AreOpenAtMark saved.mark.period saved.mark.calls
