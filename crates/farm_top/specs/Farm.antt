-- The command `run`: the orders, the run over the lines, and its report (this project's profile).
use Rattle.std.specs.Prelude.{◌≡◌, ◌⊎◌, ℕ, List, [], ◌∷◌, ◌++◌, codes, decimal, Some, Result, Ok, Err, IsErrOf}
use Rattle.trau_io.specs.declared.line.Side.{Side}
use Rattle.trau_io.specs.declared.line.Line.{Line as TheLine}
use Rattle.trau_io.specs.declared.line.Failed.{Failed}
use Rattle.trau_io.specs.Lines.{LineState, Rose}
use Rattle.trau_io.specs.Desks.{DeskState}
use Rattle.trau_io.specs.Transfer.{Tells}
use Rattle.trau_orders.specs.declared.order.Order.{Order}
use Rattle.farm_orders.specs.declared.fault.OrdersFault.{OrdersFault}
use Rattle.farm_orders.specs.declared.fault.OrdersFault.TheVariants.{Unread, TooLong, Line, Memory}
use Rattle.farm_orders.specs.Reading.{ReadsOrders, AnswersTold}
use Rattle.run_spec.specs.Run.{Run}
use Rattle.farm_report.specs.Lines.{report_text}
use Rattle.farm_report.specs.View.{ReportView}
use Rattle.farm_run.specs.declared.pace.Pace.{Pace}
use Rattle.farm_run.specs.Runs.{IsRunOver, Runs, is_listed}
use Rattle.farm_run.specs.Fronts.{IsCutShort}
use Rattle.command_words.specs.declared.asked.Settings.{Settings}
use Rattle.farm_top.specs.Headline.{Headline}

-- a text went out, or a proper prefix of it before the desk failed
pub record TextOut (before now : DeskState) (text : List ℕ) : Type 0 where
  pub result : Result (Unit {0}) Failed
  pub tells : Tells before now result text

-- every line is unchanged, its fault count included
abbrev pub AllStay : (ℕ → Side → LineState) → (ℕ → Side → LineState) → Type 0
AllStay before now = (c : ℕ) (s : Side) → now c s ≡ before c s

-- the command ends with this text and this status; a desk that fails while the text goes out doesn't change the status
pub record EndsWith (desk desk' : DeskState) (text : List ℕ) (due status : ℕ) : Type 0 where
  pub status_is : status ≡ due
  pub text_out : TextOut desk desk' text

-- memory ran out
abbrev pub LacksMemory : DeskState → DeskState → ℕ → Type 0
LacksMemory desk desk' status = EndsWith desk desk' (codes "no memory\n") 5 status

-- the pace of the run, by the settings
abbrev pub pace_of : Settings → Pace
pace_of s = record { workers = s.workers; batch = s.batch; slice = s.slice; periods = s.periods }

-- the text for the first line that isn't in the grammar
abbrev pub line_text : ℕ → List ℕ
line_text n = codes "orders line " ++ (decimal n ++ codes "\n")

-- how the command ends if its orders are refused, by the reason
abbrev pub RefusesOrders : OrdersFault → DeskState → DeskState → ℕ → Type 0
RefusesOrders Unread desk desk' status = EndsWith desk desk' (codes "orders unread\n") 3 status
RefusesOrders TooLong desk desk' status = EndsWith desk desk' (codes "orders too long\n") 7 status
RefusesOrders (Line n) desk desk' status = EndsWith desk desk' (line_text n) 2 status ⊎ LacksMemory desk desk' status
RefusesOrders Memory desk desk' status = LacksMemory desk desk' status

-- the status of a whole run, by the lines that failed
abbrev pub status_of_run : List TheLine → ℕ
status_of_run [] = 0
status_of_run (line ∷ lines) = 6

-- a text went out whole, and the status is the one that is due; or a proper prefix of it before the desk failed, and
-- the status is 4
abbrev pub TellsDue : ℕ → List ℕ → DeskState → DeskState → ℕ → Type 0
TellsDue due text desk desk' status = ((status ≡ due) × Tells desk desk' (Ok tt) text) ⊎ ((status ≡ 4) × Tells desk desk' (Err (record {})) text)

-- the text of a run in which these lines failed is printed, or memory ran out
abbrev pub TellsRun : List TheLine → List ℕ → DeskState → DeskState → ℕ → Type 0
TellsRun failed text desk desk' status = TellsDue (status_of_run failed) text desk desk' status ⊎ LacksMemory desk desk' status

-- the report
abbrev pub TellsReport : ReportView → DeskState → DeskState → ℕ → Type 0
TellsReport report desk desk' status = TellsRun report.failed (report_text report) desk desk' status

-- The orders are run over the lines, and the report is printed, whatever failed. The outgoing lines have the headline,
-- whatever the desk did.
pub record RunsAndTells (orders : List Order) (pace : Pace) (before now : ℕ → Side → LineState) (desk desk' : DeskState) (status : ℕ) : Type 0 where
  pub report : ReportView
  pub runs : Runs orders pace before now report
  pub headline : (r : Run) → IsRunOver orders pace.periods (is_listed report.failed) before now r → Headline r (is_listed report.failed) before now
  pub tells : TellsReport report desk desk' status

-- What follows the reading of the orders: either `done`, or the orders are refused and no line is used.
abbrev pub FollowsReading : (List Order → DeskState → Type 0) → Result (List Order) OrdersFault → (ℕ → Side → LineState) → (ℕ → Side → LineState) → DeskState →
    DeskState → ℕ → Type 0
FollowsReading done (Ok orders) before now read desk' status = done orders read
FollowsReading done (Err fault) before now read desk' status = AllStay before now × RefusesOrders fault read desk' status

-- The desk is read, and what follows depends on what was read.
pub record ReadsAndFollows (done : List Order → DeskState → Type 0) (before now : ℕ → Side → LineState) (desk desk' : DeskState) (status : ℕ) : Type 0 where
  pub read : DeskState
  pub reading : Result (List Order) OrdersFault
  pub reads : ReadsOrders desk read reading
  pub told : (text : List ℕ) → desk.to_come ≡ Some text → AnswersTold text reading
  pub unread : IsErrOf reading Unread → Rose desk.read_faults read.read_faults
  pub calm : (IsErrOf reading Unread → ⊥) → read.read_faults ≡ desk.read_faults
  pub written : read.written ≡ desk.written
  pub write_faults : read.write_faults ≡ desk.write_faults
  pub follows : FollowsReading done reading before now read desk' status

-- the orders are run to the end, or memory ran out
abbrev pub RunsOrders : Settings → (ℕ → Side → LineState) → (ℕ → Side → LineState) → DeskState → ℕ → List Order → DeskState → Type 0
RunsOrders s before now desk' status orders read =
    RunsAndTells orders (pace_of s) before now read desk' status ⊎ (IsCutShort orders s.batch s.periods before now × LacksMemory read desk' status)

-- a whole command `run`, whatever fails
abbrev pub RunsFarm : Settings → (ℕ → Side → LineState) → (ℕ → Side → LineState) → DeskState → DeskState → ℕ → Type 0
RunsFarm s before now desk desk' status = ReadsAndFollows (RunsOrders s before now desk' status) before now desk desk' status

-- the same, or memory ran out when the words were read: no line was used, and the orders weren't read
abbrev pub CarriesRun : Settings → (ℕ → Side → LineState) → (ℕ → Side → LineState) → DeskState → DeskState → ℕ → Type 0
CarriesRun s before now desk desk' status = RunsFarm s before now desk desk' status ⊎ (AllStay before now × LacksMemory desk desk' status)
