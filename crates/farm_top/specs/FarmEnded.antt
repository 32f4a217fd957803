-- What `run`, or a command that runs as it does, leaves if its orders are known, whatever fails (this project's
-- profile).
use Rattle.std.specs.Prelude.{◌≡◌, ◌≢◌, ◌⊎◌, ◌<◌, ℕ, List, [], Option, Some, length, take}
use Rattle.std.specs.Io.KnownBytes.{Appends}
use Rattle.trau_io.specs.declared.line.Line.{Line}
use Rattle.trau_io.specs.declared.line.Side.{Side}
use Rattle.trau_io.specs.Lines.{LineState}
use Rattle.trau_io.specs.Desks.{DeskState}
use Rattle.trau_orders.specs.declared.order.Order.{Order}
use Rattle.run_spec.specs.Run.{Run}
use Rattle.run_spec.specs.Facts.{report_of}
use Rattle.farm_report.specs.Lines.{report_text}
use Rattle.farm_run.specs.Runs.{AreTold, FailedShort, IsRunOver, KeepsSides, Leaves, OnlyOpenedFail, ReadToEnd, ReadsOn, TellsFailed, is_listed}
use Rattle.command_words.specs.declared.asked.Settings.{Settings}
use Rattle.farm_top.specs.Farm.{status_of_run}
use Rattle.farm_top.specs.FarmCauses.{SomeOpenedRose}
use Rattle.farm_top.specs.Headline.{Headline}

-- a proper prefix of a text was gained
abbrev pub GainsFront : Option (List ℕ) → Option (List ℕ) → List ℕ → Type 0
GainsFront before now text = (n : ℕ) × (n < length text) × Appends before now (take n text)

-- A run of these orders that came to its end, whatever failed. `text_of` is what is printed, by the run and the lines
-- that failed.
pub record EndedTelling (text_of : Run → List Line → List ℕ) (orders : List Order) (s : Settings) (before now : ℕ → Side → LineState) (desk desk' : DeskState)
    (status : ℕ) : Type 0 where
  -- the lines that failed, each once: none with status 0, some with 6
  pub failed : List Line
  pub told : TellsFailed before now failed
  pub status_is : (status ≡ 4) ⊎ (status ≡ status_of_run failed)
  -- incoming lines were only read, from the start, and outgoing lines only written
  pub sides : KeepsSides before now
  pub reads : ReadsOn before now
  -- the lines have what the run of these orders, over what the lines gave, gives them, and so the headline
  pub leaves : (r : Run) → IsRunOver orders s.periods (is_listed failed) before now r → Leaves r (is_listed failed) before now
  pub headline : (r : Run) → IsRunOver orders s.periods (is_listed failed) before now r → Headline r (is_listed failed) before now
  -- the desk gained exactly the text; with status 4 a proper prefix of it
  pub text : status ≢ 4 → (r : Run) → IsRunOver orders s.periods (is_listed failed) before now r → Appends desk.written desk'.written (text_of r failed)
  pub front : status ≡ 4 → (r : Run) → IsRunOver orders s.periods (is_listed failed) before now r → GainsFront desk.written desk'.written (text_of r failed)
  -- the orders were read to their end
  pub all_read : desk'.to_come ≡ Some []
  -- each line that failed is one of a call that the run opened; so with status 6 a fault of such a line was counted
  pub opened : (r : Run) → IsRunOver orders s.periods (is_listed failed) before now r → OnlyOpenedFail r (is_listed failed)
  pub line_failed : status ≡ 6 → (r : Run) → IsRunOver orders s.periods (is_listed failed) before now r → SomeOpenedRose r before now
  -- an incoming line that failed gave fewer octets than the call takes of it up to some period, at most a batch after
  -- the call's end
  pub short : (r : Run) → IsRunOver orders s.periods (is_listed failed) before now r → FailedShort r s.batch (is_listed failed)
  -- of a call that its lines ended, exactly the octets up to such a period were read of its incoming lines that didn't
  -- fail
  pub read_past : (r : Run) → IsRunOver orders s.periods (is_listed failed) before now r → ReadToEnd r s.batch (is_listed failed) now
  -- if the contents of the incoming lines are known, such a run exists
  pub there : AreTold before → (r : Run) × IsRunOver orders s.periods (is_listed failed) before now r

-- what `run` prints: the report, with the lines that failed
abbrev pub report_told : Run → List Line → List ℕ
report_told r failed = report_text (report_of r failed)

abbrev pub RunEnded : List Order → Settings → (ℕ → Side → LineState) → (ℕ → Side → LineState) → DeskState → DeskState → ℕ → Type 0
RunEnded orders s before now desk desk' status = EndedTelling report_told orders s before now desk desk' status
