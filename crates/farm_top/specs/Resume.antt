-- The command `resume`: a mark and the orders after it, the run over the lines from the mark on, and its report (this
-- project's profile).
use Rattle.std.specs.Prelude.{◌≡◌, ◌⊎◌, ℕ, max, List, ◌++◌, codes, decimal, Some, Result, Ok, Err, IsErrOf}
use Rattle.trau_io.specs.declared.line.Side.{Side}
use Rattle.trau_io.specs.Lines.{LineState, Rose}
use Rattle.trau_io.specs.Desks.{DeskState}
use Rattle.farm_orders.specs.declared.fault.MarkedFault.{MarkedFault}
use Rattle.farm_orders.specs.declared.fault.MarkedFault.TheVariants.{Mark, Orders}
use Rattle.farm_orders.specs.declared.fault.OrdersFault.TheVariants.{Unread}
use Rattle.farm_orders.specs.declared.marked.MarkedOrders.{MarkedOrders}
use Rattle.farm_orders.specs.Marked.{ReadsMarked, AnswersMarkedTold}
use Rattle.farm_report.specs.View.{ReportView}
use Rattle.run_spec.specs.Run.{Run}
use Rattle.farm_run.specs.Runs.{IsRunOver, is_listed}
use Rattle.farm_run.specs.Resuming.{FindsDifference, IsResumeCutShort, ResumesRun}
use Rattle.command_words.specs.declared.asked.Settings.{Settings}
use Rattle.farm_top.specs.Farm.{AllStay, EndsWith, LacksMemory, RefusesOrders, TellsReport, pace_of}
use Rattle.farm_top.specs.Headline.{HeadlineFrom}

-- the text for the first line that isn't in a mark's grammar
abbrev pub mark_line_text : ℕ → List ℕ
mark_line_text n = codes "save line " ++ (decimal n ++ codes "\n")

-- the text for a mark that isn't that of the run; this is the least call number that differs
unfoldable pub differs_text : ℕ → List ℕ
differs_text call = codes "save differs " ++ (decimal call ++ codes "\n")

-- how the command ends if its mark or orders are refused, by the reason
abbrev pub RefusesMarked : MarkedFault → DeskState → DeskState → ℕ → Type 0
RefusesMarked (Mark n) desk desk' status = EndsWith desk desk' (mark_line_text n) 2 status ⊎ LacksMemory desk desk' status
RefusesMarked (Orders fault) desk desk' status = RefusesOrders fault desk desk' status

-- where the run ends: at the mark's period or the settings' number of periods, whichever is greater
abbrev pub end_after : MarkedOrders → Settings → ℕ
end_after read s = max read.mark.period s.periods

-- The orders are run over the lines from the mark on, and the report is printed, whatever failed. The outgoing lines
-- have the headline, without what was held back, whatever the desk did.
pub record ResumesAndTells (read : MarkedOrders) (s : Settings) (before now : ℕ → Side → LineState) (desk desk' : DeskState) (status : ℕ) : Type 0 where
  pub report : ReportView
  pub resumes : ResumesRun read.orders (pace_of s) read.mark before now report
  pub headline : (r : Run) → IsRunOver read.orders (end_after read s) (is_listed report.failed) before now r →
      HeadlineFrom r read.mark.period (is_listed report.failed) before now
  pub tells : TellsReport report desk desk' status

-- The mark isn't that of these lines and orders, and the text says the least call number that differs. A desk that
-- fails while this text goes out doesn't change the status.
pub record FindsAndTells (read : MarkedOrders) (s : Settings) (before now : ℕ → Side → LineState) (desk desk' : DeskState) (status : ℕ) : Type 0 where
  pub call : ℕ
  pub finds : FindsDifference read.orders (pace_of s) read.mark before now call
  pub ends : EndsWith desk desk' (differs_text call) 9 status

-- what is done with a mark and orders that were accepted: one of these two, or memory ran out
abbrev pub ResumesOrders : Settings → (ℕ → Side → LineState) → (ℕ → Side → LineState) → DeskState → ℕ → MarkedOrders → DeskState → Type 0
ResumesOrders s before now desk' status read desk =
    ResumesAndTells read s before now desk desk' status
    ⊎ FindsAndTells read s before now desk desk' status
    ⊎ (IsResumeCutShort read.orders s.batch (end_after read s) read.mark before now × LacksMemory desk desk' status)

-- what follows the reading: either this, or the mark or the orders are refused and no line is used
abbrev pub FollowsMarked : Settings → Result MarkedOrders MarkedFault → (ℕ → Side → LineState) → (ℕ → Side → LineState) → DeskState → DeskState → ℕ → Type 0
FollowsMarked s (Ok marked) before now read desk' status = ResumesOrders s before now desk' status marked read
FollowsMarked s (Err fault) before now read desk' status = AllStay before now × RefusesMarked fault read desk' status

-- a whole command `resume`, whatever fails: the desk is read, and what follows depends on what was read
pub record ResumesFarm (s : Settings) (before now : ℕ → Side → LineState) (desk desk' : DeskState) (status : ℕ) : Type 0 where
  pub read : DeskState
  pub reading : Result MarkedOrders MarkedFault
  pub reads : ReadsMarked desk read reading
  pub told : (text : List ℕ) → desk.to_come ≡ Some text → AnswersMarkedTold text reading
  pub unread : IsErrOf reading (Orders Unread) → Rose desk.read_faults read.read_faults
  pub calm : (IsErrOf reading (Orders Unread) → ⊥) → read.read_faults ≡ desk.read_faults
  pub written : read.written ≡ desk.written
  pub write_faults : read.write_faults ≡ desk.write_faults
  pub follows : FollowsMarked s reading before now read desk' status

-- the same, or memory ran out when the words were read: no line was used, and the mark wasn't read
abbrev pub CarriesResume : Settings → (ℕ → Side → LineState) → (ℕ → Side → LineState) → DeskState → DeskState → ℕ → Type 0
CarriesResume s before now desk desk' status = ResumesFarm s before now desk desk' status ⊎ (AllStay before now × LacksMemory desk desk' status)
