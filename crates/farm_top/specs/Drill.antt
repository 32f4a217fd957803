-- The command `drill`: a run over lines of its own, its report and its sums (this project's profile).
use Rattle.std.specs.Prelude.{◌≡◌, ◌⊎◌, ◌<◌, ℕ, List, codes}
use Rattle.std.specs.Io.KnownBytes.{Appends}
use Rattle.trau_io.specs.declared.line.Side.{Side}
use Rattle.trau_io.specs.Lines.{LineState, Rose}
use Rattle.trau_io.specs.Desks.{DeskState}
use Rattle.drill_run.specs.Drilled.{IsDrilled, drilled_run, text_with_sums}
use Rattle.farm_run.specs.Runs.{none_fails}
use Rattle.block_lines.specs.Command.{IsCalm}
use Rattle.farm_top.specs.Farm.{AllStay, LacksMemory, TellsDue, TextOut}
use Rattle.farm_top.specs.FarmEnded.{GainsFront}
use Rattle.farm_top.specs.Headline.{Headline}

-- A drill has this text. There are lines on which its run leaves what it gives them; none of them failed, and the
-- headline holds for them. This doesn't say which lines the drill processed.
pub record HasDrilled (seed calls periods : ℕ) (text : List ℕ) : Type 0 where
  pub drilled : IsDrilled seed calls periods text
  pub headline : Headline (drilled_run seed calls periods) none_fails drilled.before drilled.now

-- the text of a command in which no line can fail went out, or a proper prefix of it before the desk failed
abbrev pub TellsWhole : List ℕ → DeskState → DeskState → ℕ → Type 0
TellsWhole text desk desk' status = TellsDue 0 text desk desk' status

-- a drill came to its end, and its text was printed
pub record TellsDrill (seed calls periods : ℕ) (desk desk' : DeskState) (status : ℕ) : Type 0 where
  pub text : List ℕ
  pub has : HasDrilled seed calls periods text
  pub tells : TellsWhole text desk desk' status

-- a whole command `drill`, whatever the desk does, or memory ran out
abbrev pub CarriesDrill : ℕ → ℕ → ℕ → DeskState → DeskState → ℕ → Type 0
CarriesDrill seed calls periods desk desk' status = TellsDrill seed calls periods desk desk' status ⊎ LacksMemory desk desk' status

-- What the command leaves, and why its status is what it is. The text depends only on the seed, the calls and the
-- periods.
pub record DrillEnds (seed calls periods : ℕ) (before now : ℕ → Side → LineState) (desk desk' : DeskState) (status : ℕ) : Type 0 where
  -- the status is never that of a failed line
  pub known : (status ≡ 0) ⊎ (status ≡ 4) ⊎ (status ≡ 5)
  -- no line of the trunk is used, and nothing is read of the desk
  pub unused : AllStay before now
  pub unread : desk'.to_come ≡ desk.to_come
  pub read_faults : desk'.read_faults ≡ desk.read_faults
  -- the desk gained exactly the report and the sums of the drill's run; with status 4 a proper prefix of these
  pub text : status ≡ 0 → Appends desk.written desk'.written (text_with_sums (drilled_run seed calls periods))
  pub front : status ≡ 4 → GainsFront desk.written desk'.written (text_with_sums (drilled_run seed calls periods))
  pub no_memory : status ≡ 5 → TextOut desk desk' (codes "no memory\n")
  -- with 0 and 4 there are lines with the drill's contents on which its run leaves what it gives them
  pub ran : (status ≡ 0) ⊎ (status ≡ 4) → HasDrilled seed calls periods (text_with_sums (drilled_run seed calls periods))
  -- the status is 4 only if a fault of the desk's writing was counted; if that count grew, the status is 4 or 5
  pub desk_failed : status ≡ 4 → Rose desk.write_faults desk'.write_faults
  pub desk_rose : desk.write_faults < desk'.write_faults → (status ≡ 4) ⊎ (status ≡ 5)
  pub complete : IsCalm desk.write_faults desk'.write_faults → (status ≡ 0) ⊎ (status ≡ 5)
