-- What the command `live` leaves, and why its statuses come.
use Rattle.std.proofs.Common.{inl, inr, ℕ, arith}
use Rattle.trau_io.specs.declared.line.Side.{Side}
use Rattle.trau_io.specs.Lines.{LineState, Rose}
use Rattle.trau_io.specs.Desks.{DeskState}
use Rattle.block_lines.specs.Command.{IsCalm}
use Rattle.command_words.specs.declared.live.LiveSettings.{LiveSettings}
use Rattle.live_run.specs.Text.{live_text}
use Rattle.farm_top.specs.Drill.{TellsWhole}
use Rattle.farm_top.specs.Farm.{AllStay, LacksMemory}
use Rattle.farm_top.specs.Live.{CarriesLive, LiveEnds}

module _ (s : LiveSettings) (before now : ℕ → Side → LineState) (desk desk' : DeskState) (status : ℕ) where
  lacking : AllStay before now → LacksMemory desk desk' status → LiveEnds s.seed s.calls s.periods before now desk desk' status
  lacking stay ends =
      let is = ends.status_is in
      let told = ends.text_out.tells in
      record {
        known = inr (inr is);
        unused = stay;
        unread = told.to_come;
        read_faults = told.read_faults;
        text = λ e. absurd (omega (arith, e, is));
        front = λ e. absurd (omega (arith, e, is));
        no_memory = λ _. ends.text_out;
        desk_failed = λ e. absurd (omega (arith, e, is));
        desk_rose = λ _. inr is;
        complete = λ _. inr is;
      }

  telling : AllStay before now → TellsWhole (live_text s.seed s.calls s.periods) desk desk' status →
      LiveEnds s.seed s.calls s.periods before now desk desk' status
  telling stay (inl (is, told)) = record {
    known = inl is;
    unused = stay;
    unread = told.to_come;
    read_faults = told.read_faults;
    text = λ _. told.ok;
    front = λ e. absurd (omega (arith, e, is));
    no_memory = λ e. absurd (omega (arith, e, is));
    desk_failed = λ e. absurd (omega (arith, e, is));
    desk_rose = λ more. (let calm = told.cause.ok in absurd (omega (arith, more, calm)));
    complete = λ _. inl is;
  }
  telling stay (inr (is, told)) = record {
    known = inr (inl is);
    unused = stay;
    unread = told.to_come;
    read_faults = told.read_faults;
    text = λ e. absurd (omega (arith, e, is));
    front = λ _. told.err;
    no_memory = λ e. absurd (omega (arith, e, is));
    desk_failed = λ _. told.cause.failed;
    desk_rose = λ _. inl is;
    complete = λ calm. absurd (calm_not calm told.cause.failed);
  }
    where
      calm_not : IsCalm desk.write_faults desk'.write_faults → Rose desk.write_faults desk'.write_faults → ⊥
      calm_not calm rose = omega (arith, calm.0, calm.1, rose)

  -- **So the command has its text, or there was no memory.**
  pub live_ends : AllStay before now × CarriesLive s desk desk' status → LiveEnds s.seed s.calls s.periods before now desk desk' status
  live_ends (stay, inl tells) = telling stay tells
  live_ends (stay, inr ends) = lacking stay ends
