-- What `run`, or a command that runs as it does, leaves if the contents of desk and lines are known and nothing fails
-- (this project's profile).
use Rattle.std.specs.Prelude.{◌≡◌, ℕ, List, [], Some}
use Rattle.std.specs.Io.KnownBytes.{Appends}
use Rattle.trau_io.specs.declared.line.Side.{Side}
use Rattle.trau_io.specs.Lines.{LineState}
use Rattle.trau_io.specs.Desks.{DeskState}
use Rattle.trau_orders.specs.declared.order.Order.{Order}
use Rattle.trau_orders.specs.Text.{text_lines, AreLines, IsWithin}
use Rattle.run_spec.specs.Run.{Run}
use Rattle.run_spec.specs.Facts.{report_of}
use Rattle.farm_report.specs.Lines.{report_text}
use Rattle.farm_run.specs.Runs.{NoneRose, Leaves, none_fails}
use Rattle.block_lines.specs.Command.{IsCalm}

-- the desk's text is known and within the limits, and its lines are those of these orders
pub record TellsOrders (orders : List Order) (desk : DeskState) : Type 0 where
  pub text : List ℕ
  pub told : desk.to_come ≡ Some text
  pub within : IsWithin text
  pub spelled : AreLines (text_lines text) orders

-- no fault was counted, of a line or of the desk
pub record IsCalmRun (before now : ℕ → Side → LineState) (desk desk' : DeskState) : Type 0 where
  pub lines : NoneRose before now
  pub reading : IsCalm desk.read_faults desk'.read_faults
  pub writing : IsCalm desk.write_faults desk'.write_faults

-- What a command leaves that prints the text `of_run` of this run: the lines have what the run gives them, the desk
-- gained exactly the text, and the orders were read to their end.
pub record CleanTelling (of_run : List ℕ) (r : Run) (before now : ℕ → Side → LineState) (desk desk' : DeskState) (status : ℕ) : Type 0 where
  pub done : status ≡ 0
  pub leaves : Leaves r none_fails before now
  pub text : Appends desk.written desk'.written of_run
  pub all_read : desk'.to_come ≡ Some []

-- the text is the run's report, without a failed line
abbrev pub CleanFarm : Run → (ℕ → Side → LineState) → (ℕ → Side → LineState) → DeskState → DeskState → ℕ → Type 0
CleanFarm r before now desk desk' status = CleanTelling (report_text (report_of r [])) r before now desk desk' status
