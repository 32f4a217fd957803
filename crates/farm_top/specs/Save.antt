-- The command `save`: the orders, the run over the lines, and its mark at its end (this project's profile).
use Rattle.std.specs.Prelude.{◌⊎◌, ℕ, List, [], ◌∷◌}
use Rattle.std.specs.List.{flat_map}
use Rattle.trau_io.specs.declared.line.Line.{Line}
use Rattle.trau_io.specs.declared.line.Side.{Side}
use Rattle.trau_io.specs.Lines.{LineState}
use Rattle.trau_io.specs.Desks.{DeskState}
use Rattle.trau_orders.specs.declared.order.Order.{Order}
use Rattle.farm_checkpoint.specs.Marks.{MarkView}
use Rattle.farm_checkpoint.specs.Text.{mark_text}
use Rattle.farm_report.specs.Lines.{failed_line}
use Rattle.run_spec.specs.Run.{Run}
use Rattle.run_spec.specs.Mark.{mark_of}
use Rattle.farm_run.specs.declared.pace.Pace.{Pace}
use Rattle.farm_run.specs.Runs.{IsRunOver, is_listed}
use Rattle.farm_run.specs.Fronts.{IsCutShort}
use Rattle.farm_run.specs.Saving.{SavedView, Saves}
use Rattle.command_words.specs.declared.asked.Settings.{Settings}
use Rattle.farm_top.specs.Farm.{AllStay, LacksMemory, ReadsAndFollows, TellsRun, pace_of}
use Rattle.farm_top.specs.FarmClean.{CleanTelling}
use Rattle.farm_top.specs.FarmEnded.{EndedTelling}
use Rattle.farm_top.specs.Headline.{Headline}

-- the text of a mark; if lines failed, a line for each of them and nothing else
abbrev pub saved_text : List Line → MarkView → List ℕ
saved_text [] mark = mark_text mark
saved_text (line ∷ lines) mark = flat_map failed_line (line ∷ lines)

-- The orders are run over the lines, and the run's mark or the lines that failed are printed. The outgoing lines have
-- the headline, whatever the desk did.
pub record SavesAndTells (orders : List Order) (pace : Pace) (before now : ℕ → Side → LineState) (desk desk' : DeskState) (status : ℕ) : Type 0 where
  pub saved : SavedView
  pub saves : Saves orders pace before now saved
  pub headline : (r : Run) → IsRunOver orders pace.periods (is_listed saved.failed) before now r → Headline r (is_listed saved.failed) before now
  pub tells : TellsRun saved.failed (saved_text saved.failed saved.mark) desk desk' status

-- the orders are run to the end, or memory ran out
abbrev pub SavesOrders : Settings → (ℕ → Side → LineState) → (ℕ → Side → LineState) → DeskState → ℕ → List Order → DeskState → Type 0
SavesOrders s before now desk' status orders read =
    SavesAndTells orders (pace_of s) before now read desk' status ⊎ (IsCutShort orders s.batch s.periods before now × LacksMemory read desk' status)

-- a whole command `save`, whatever fails; the reading of the orders and their refusal are those of `run`
abbrev pub SavesFarm : Settings → (ℕ → Side → LineState) → (ℕ → Side → LineState) → DeskState → DeskState → ℕ → Type 0
SavesFarm s before now desk desk' status = ReadsAndFollows (SavesOrders s before now desk' status) before now desk desk' status

-- the same, or memory ran out when the words were read: no line was used, and the orders weren't read
abbrev pub CarriesSave : Settings → (ℕ → Side → LineState) → (ℕ → Side → LineState) → DeskState → DeskState → ℕ → Type 0
CarriesSave s before now desk desk' status = SavesFarm s before now desk desk' status ⊎ (AllStay before now × LacksMemory desk desk' status)

-- what `save` prints of a run in which these lines failed
abbrev pub mark_told : Run → List Line → List ℕ
mark_told r failed = saved_text failed (mark_of r)

-- What it leaves if its orders are known: all that `run` does, with this text.
abbrev pub SaveEnded : List Order → Settings → (ℕ → Side → LineState) → (ℕ → Side → LineState) → DeskState → DeskState → ℕ → Type 0
SaveEnded orders s before now desk desk' status = EndedTelling mark_told orders s before now desk desk' status

-- What it leaves if nothing fails: the text is the mark's.
abbrev pub CleanSave : Run → (ℕ → Side → LineState) → (ℕ → Side → LineState) → DeskState → DeskState → ℕ → Type 0
CleanSave r before now desk desk' status = CleanTelling (mark_text (mark_of r)) r before now desk desk' status
