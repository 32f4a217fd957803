-- What the command `drill` leaves, and why its statuses come.
use Rattle.std.proofs.Common.{◌≡◌, ◌⊎◌, inl, inr, ℕ, List, subst, arith}
use Rattle.std.specs.Io.KnownBytes.{Appends}
use Rattle.trau_io.specs.declared.line.Side.{Side}
use Rattle.trau_io.specs.Lines.{LineState, Rose}
use Rattle.trau_io.specs.Desks.{DeskState}
use Rattle.drill_run.specs.Drilled.{IsDrilled, drilled_run}
use Rattle.farm_run.specs.Runs.{none_fails}
use Rattle.block_lines.specs.Command.{IsCalm}
use Rattle.farm_top.specs.Drill.{CarriesDrill, DrillEnds, HasDrilled, TellsDrill, TellsWhole}
use Rattle.farm_top.specs.Farm.{AllStay, LacksMemory}
use Rattle.farm_top.specs.FarmEnded.{GainsFront}
use Rattle.farm_top.specs.Headline.{Headline}

-- a drill whose run has the headline
pub drilled_and_told : (seed calls periods : ℕ) (text : List ℕ) (desk desk' : DeskState) (status : ℕ) (drilled : IsDrilled seed calls periods text) →
    Headline (drilled_run seed calls periods) none_fails drilled.before drilled.now → TellsWhole text desk desk' status →
    TellsDrill seed calls periods desk desk' status
drilled_and_told seed calls periods text desk desk' status drilled headline tells =
    record { text = text; has = record { drilled = drilled; headline = headline }; tells = tells }

module _ (seed calls periods : ℕ) (before now : ℕ → Side → LineState) (desk desk' : DeskState) (status : ℕ) where
  lacking : AllStay before now → LacksMemory desk desk' status → DrillEnds seed calls periods before now desk desk' status
  lacking stay ends =
      let is = ends.status_is in
      let told = ends.text_out.tells in
      record {
        known = inr (inr is);
        unused = stay;
        unread = told.to_come;
        read_faults = told.read_faults;
        text = λ e. absurd (omega (arith, e, is));
        front = λ e. absurd (omega (arith, e, is));
        no_memory = λ _. ends.text_out;
        ran = λ e. absurd (omega (arith, e, is));
        desk_failed = λ e. absurd (omega (arith, e, is));
        desk_rose = λ _. inr is;
        complete = λ _. inr is;
      }

  telling : AllStay before now → (x : TellsDrill seed calls periods desk desk' status) → TellsWhole x.text desk desk' status →
      DrillEnds seed calls periods before now desk desk' status
  telling stay x (inl (is, told)) =
      let same = x.has.drilled.spelled in
      record {
        known = inl is;
        unused = stay;
        unread = told.to_come;
        read_faults = told.read_faults;
        text = λ _. subst (λ (text : List ℕ). Appends desk.written desk'.written text) same told.ok;
        front = λ e. absurd (omega (arith, e, is));
        no_memory = λ e. absurd (omega (arith, e, is));
        ran = λ _. subst (λ (text : List ℕ). HasDrilled seed calls periods text) same x.has;
        desk_failed = λ e. absurd (omega (arith, e, is));
        desk_rose = λ more. (let calm = told.cause.ok in absurd (omega (arith, more, calm)));
        complete = λ _. inl is;
      }
  telling stay x (inr (is, told)) =
      let same = x.has.drilled.spelled in
      record {
        known = inr (inl is);
        unused = stay;
        unread = told.to_come;
        read_faults = told.read_faults;
        text = λ e. absurd (omega (arith, e, is));
        front = λ _. subst (λ (text : List ℕ). GainsFront desk.written desk'.written text) same told.err;
        no_memory = λ e. absurd (omega (arith, e, is));
        ran = λ _. subst (λ (text : List ℕ). HasDrilled seed calls periods text) same x.has;
        desk_failed = λ _. told.cause.failed;
        desk_rose = λ _. inl is;
        complete = λ calm. absurd (calm_not calm told.cause.failed);
      }
    where
      calm_not : IsCalm desk.write_faults desk'.write_faults → Rose desk.write_faults desk'.write_faults → ⊥
      calm_not calm rose = omega (arith, calm.0, calm.1, rose)

  -- **So the command has its text, or there was no memory.**
  pub drill_ends : AllStay before now × CarriesDrill seed calls periods desk desk' status → DrillEnds seed calls periods before now desk desk' status
  drill_ends (stay, inl x) = telling stay x x.tells
  drill_ends (stay, inr ends) = lacking stay ends

pub not_six : (status : ℕ) → (status ≡ 0) ⊎ (status ≡ 4) ⊎ (status ≡ 5) → status ≡ 6 → ⊥
not_six status known six = omega (arith, known, six)
