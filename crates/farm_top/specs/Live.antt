-- The command `live`: callers on threads post the periods of drawn calls, and the sums are printed (this project's
-- profile).
use Rattle.std.specs.Prelude.{◌≡◌, ◌⊎◌, ◌<◌, ℕ, codes}
use Rattle.std.specs.Io.KnownBytes.{Appends}
use Rattle.trau_io.specs.declared.line.Side.{Side}
use Rattle.trau_io.specs.Lines.{LineState, Rose}
use Rattle.trau_io.specs.Desks.{DeskState}
use Rattle.block_lines.specs.Command.{IsCalm}
use Rattle.command_words.specs.declared.live.LiveSettings.{LiveSettings}
use Rattle.live_run.specs.declared.size.LiveDrill.{LiveDrill}
use Rattle.live_run.specs.Text.{live_text}
use Rattle.farm_top.specs.Drill.{TellsWhole}
use Rattle.farm_top.specs.Farm.{AllStay, LacksMemory, TextOut}
use Rattle.farm_top.specs.FarmEnded.{GainsFront}

-- the live drill, by the settings
abbrev pub live_of : LiveSettings → LiveDrill
live_of s = record { seed = s.seed; calls = s.calls; periods = s.periods; callers = s.callers; inbox = s.inbox }

-- a whole command `live`, whatever the desk does, or memory ran out
abbrev pub CarriesLive : LiveSettings → DeskState → DeskState → ℕ → Type 0
CarriesLive s desk desk' status = TellsWhole (live_text s.seed s.calls s.periods) desk desk' status ⊎ LacksMemory desk desk' status

-- What the command leaves, and why its status is what it is. The text depends only on the seed, the calls and the
-- periods: for each call it has the sums of its outgoing lines, by the definition of the call as a whole, without
-- orders, over the drawn lines.
pub record LiveEnds (seed calls periods : ℕ) (before now : ℕ → Side → LineState) (desk desk' : DeskState) (status : ℕ) : Type 0 where
  pub known : (status ≡ 0) ⊎ (status ≡ 4) ⊎ (status ≡ 5)
  -- no line of the trunk is used, and nothing is read of the desk
  pub unused : AllStay before now
  pub unread : desk'.to_come ≡ desk.to_come
  pub read_faults : desk'.read_faults ≡ desk.read_faults
  -- the desk gained exactly the text; with status 4 a proper prefix of it
  pub text : status ≡ 0 → Appends desk.written desk'.written (live_text seed calls periods)
  pub front : status ≡ 4 → GainsFront desk.written desk'.written (live_text seed calls periods)
  pub no_memory : status ≡ 5 → TextOut desk desk' (codes "no memory\n")
  -- the status is 4 only if a fault of the desk's writing was counted; if that count grew, the status is 4 or 5
  pub desk_failed : status ≡ 4 → Rose desk.write_faults desk'.write_faults
  pub desk_rose : desk.write_faults < desk'.write_faults → (status ≡ 4) ⊎ (status ≡ 5)
  pub complete : IsCalm desk.write_faults desk'.write_faults → (status ≡ 0) ⊎ (status ≡ 5)
