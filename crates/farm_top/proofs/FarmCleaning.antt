-- What a run leaves, whatever failed, and of which no count rose: it ended well, unless there was no memory.
use Rattle.std.proofs.Common.{◌≡◌, ◌≢◌, ◌⊎◌, inl, inr, ℕ, false, List, [], Option, Some, sym, ◌∙◌, ap, subst, arith}
use Rattle.std.specs.Io.KnownBytes.{Appends}
use Rattle.trau_io.specs.declared.line.Side.{Side}
use Rattle.trau_io.specs.declared.line.Line.{Line as TheLine}
use Rattle.trau_io.specs.Lines.{LineState, Rose}
use Rattle.trau_io.specs.Desks.{DeskState}
use Rattle.trau_orders.specs.declared.order.Order.{Order}
use Rattle.trau_orders.specs.Text.{text_lines, GoodOrBad, SpellsOneList}
use Rattle.trau_orders.proofs.Known.{orders_known}
use Rattle.run_spec.specs.Run.{Run}
use Rattle.farm_run.specs.Runs.{IsRunOver, Leaves, NoneRose, is_listed}
use Rattle.farm_run.specs.Fronts.{IsCutShort}
use Rattle.farm_run.proofs.Clocks.Last.{none_listed}
use Rattle.command_words.specs.declared.asked.Settings.{Settings}
use Rattle.farm_top.specs.Farm.{AllStay, CarriesRun, LacksMemory, ReadsAndFollows, RunsOrders, TellsRun}
use Rattle.farm_top.specs.FarmClean.{CleanFarm, CleanTelling, IsCalmRun, TellsOrders}
use Rattle.farm_top.specs.FarmEnded.{EndedTelling, GainsFront, RunEnded, report_told}
use Rattle.farm_top.specs.Headline.{Headline}
use Rattle.farm_top.specs.Save.{CarriesSave, CleanSave, SaveEnded, SavesOrders, mark_told}
use Rattle.block_lines.proofs.Ending.{not_calm}
use Rattle.farm_top.proofs.Taking.{NotTaken, Taken, done_of, front_out, opened_rose, read_out, status_out, taken, whole_out}
use Rattle.farm_top.proofs.ToldRuns.{ToldOrCut, ToldRun, cut_none, cut_whole, told_by_run, told_by_save}

-- ---- of orders that the desk tells, whatever is done with them that comes to this

module _ (text_of : Run → List TheLine → List ℕ) (good : GoodOrBad) (one : SpellsOneList) (s : Settings) (done : List Order → DeskState → Type 0)
    (before now : ℕ → Side → LineState) (desk desk' : DeskState) (status : ℕ) (orders : List Order) (told : TellsOrders orders desk)
    (comes : (read : DeskState) → done orders read → ToldOrCut text_of s before now desk' status orders read)
    (carried : ReadsAndFollows done before now desk desk' status ⊎ (AllStay before now × LacksMemory desk desk' status)) where
  -- a run that was carried to its end, behind the reading of its orders
  record Ran : Type 0 where
    pub read : DeskState
    pub written : read.written ≡ desk.written
    pub write_faults : read.write_faults ≡ desk.write_faults
    pub all_read : read.to_come ≡ Some []
    pub run : ToldRun text_of orders s before now read desk' status

  what : Taken (List Order) done orders desk ⊎ NotTaken before now desk desk' status
  what = taken good one done before now desk desk' status orders told carried

  ran_of : (t : Taken (List Order) done orders desk) → ToldOrCut text_of s before now desk' status orders t.read →
      Ran ⊎ (IsCutShort orders s.batch s.periods before now × (status ≡ 5))
  ran_of t (inl ran) = inl (record { read = t.read; written = t.written; write_faults = t.write_faults; all_read = t.all_read; run = ran })
  ran_of t (inr (cut, ends)) = inr (cut, ends.status_is)

  ran_or_cut : Taken (List Order) done orders desk ⊎ NotTaken before now desk desk' status →
      Ran ⊎ ((IsCutShort orders s.batch s.periods before now × (status ≡ 5)) ⊎ NotTaken before now desk desk' status)
  ran_or_cut (inl t) = elim (ran_of t (comes t.read t.done)) [
    | inl ran ↦ inl ran
    | inr cut ↦ inr (inl cut)
  ]
  ran_or_cut (inr none) = inr (inr none)

  -- after 0, 4 and 6 the orders were run
  ran_to_end : (status ≡ 0) ⊎ (status ≡ 4) ⊎ (status ≡ 6) → Ran
  ran_to_end due = elim (ran_or_cut what) [
    | inl ran ↦ ran
    | inr (inl cut) ↦ (let is = cut.1 in absurd (omega (arith, due, is)))
    | inr (inr none) ↦ absurd (not_due none.why)
  ]
    where
      not_due : ((status ≡ 3) × Rose desk.read_faults desk'.read_faults) ⊎ (status ≡ 5) → ⊥
      not_due (inl (is, rose)) = omega (arith, due, is)
      not_due (inr is) = omega (arith, due, is)

  -- **So lines and text are those of the run.**
  pub ended : (status ≡ 0) ⊎ (status ≡ 4) ⊎ (status ≡ 6) → EndedTelling text_of orders s before now desk desk' status
  ended due =
      let ran = ran_to_end due in
      let run = ran.run in
      record {
        failed = run.failed;
        told = run.told;
        status_is = status_out run.failed run.text desk ran.read desk' status due ran.written run.tells;
        sides = run.sides;
        reads = run.reads;
        leaves = run.leaves;
        headline = run.headline;
        text = λ not r over. subst (λ (t : List ℕ). Appends desk.written desk'.written t) (run.text_is r over)
            (whole_out run.failed run.text desk ran.read desk' status due ran.written not run.tells);
        front = λ four r over. subst (λ (t : List ℕ). GainsFront desk.written desk'.written t) (run.text_is r over)
            (front_out run.failed run.text desk ran.read desk' status due ran.written four run.tells);
        all_read = read_out run.failed run.text desk ran.read desk' status due ran.written run.tells ∙ ran.all_read;
        opened = run.opened;
        line_failed = λ six r over. opened_rose r before now run.failed status
            (status_out run.failed run.text desk ran.read desk' status due ran.written run.tells) run.told (run.opened r over) six;
        short = run.short;
        read_past = run.read_past;
        there = run.there (orders_known (text_lines told.text) orders told.within.1 told.spelled);
      }

  -- where no count rose no line is listed
  pub leaves : (status ≡ 0) ⊎ (status ≡ 4) ⊎ (status ≡ 6) → NoneRose before now → (r : Run) → IsRunOver orders s.periods (λ c side. false) before now r →
      Leaves r (λ c side. false) before now
  leaves due none r over =
      let run = (ran_to_end due).run in
      let e = none_listed before now run.failed run.told none in
      subst (λ (ls : List TheLine). Leaves r (is_listed ls) before now) e
      (run.leaves r (subst (λ (ls : List TheLine). IsRunOver orders s.periods (is_listed ls) before now r) (sym e) over))

  pub headline : (status ≡ 0) ⊎ (status ≡ 4) ⊎ (status ≡ 6) → NoneRose before now → (r : Run) → IsRunOver orders s.periods (λ c side. false) before now r →
      Headline r (λ c side. false) before now
  headline due none r over =
      let run = (ran_to_end due).run in
      let e = none_listed before now run.failed run.told none in
      subst (λ (ls : List TheLine). Headline r (is_listed ls) before now) e
      (run.headline r (subst (λ (ls : List TheLine). IsRunOver orders s.periods (is_listed ls) before now r) (sym e) over))

  -- **The run was cut short.**
  pub cut_short : IsCutShort orders s.batch s.periods before now
  cut_short = elim (ran_or_cut what) [
    | inl ran ↦ cut_whole text_of orders s before now ran.read desk' status (orders_known (text_lines told.text) orders told.within.1 told.spelled) ran.run
    | inr (inl cut) ↦ cut.0
    | inr (inr none) ↦ cut_none orders s.batch s.periods before now none.stay
  ]

  module _ (calm : IsCalmRun before now desk desk') where
    -- a run whose text went out whole and lists no line
    record EndsWell : Type 0 where
      pub zero : status ≡ 0
      pub ran : Ran
      pub text : Appends desk.written desk'.written ran.run.text
      pub to_come : desk'.to_come ≡ Some []

    well_told : (ran : Ran) → TellsRun ran.run.failed ran.run.text ran.read desk' status → (status ≡ 5) ⊎ EndsWell
    well_told ran (inl (inl (is, tells))) = inr (record {
      zero = is ∙ done_of before now calm.lines ran.run.failed ran.run.told;
      ran = ran;
      text = subst (λ (w : Option (List ℕ)). Appends w desk'.written ran.run.text) ran.written tells.ok;
      to_come = tells.to_come ∙ ran.all_read;
    })
    well_told ran (inl (inr (is, tells))) =
        absurd (not_calm desk.write_faults desk'.write_faults calm.writing (subst (λ (n : ℕ). Rose n desk'.write_faults) ran.write_faults tells.cause.failed))
    well_told ran (inr ends) = inl ends.status_is

    ends_well : (status ≡ 5) ⊎ EndsWell
    ends_well = elim (ran_or_cut what) [
      | inl ran ↦ well_told ran ran.run.tells
      | inr (inl cut) ↦ inl cut.1
      | inr (inr none) ↦ inl (only_memory none.why)
    ]
      where
        only_memory : ((status ≡ 3) × Rose desk.read_faults desk'.read_faults) ⊎ (status ≡ 5) → status ≡ 5
        only_memory (inl (is, rose)) = absurd (not_calm desk.read_faults desk'.read_faults calm.reading rose)
        only_memory (inr is) = is

    -- orders that are accepted are run, unless there is no memory
    pub complete : (status ≡ 0) ⊎ (status ≡ 5)
    complete = elim ends_well [
      | inl five ↦ inr five
      | inr well ↦ inl well.zero
    ]

    -- and what the run gives is left
    pub clean : status ≢ 5 → (r : Run) → IsRunOver orders s.periods (λ c side. false) before now r → CleanTelling (text_of r []) r before now desk desk' status
    clean not r over = elim ends_well [
      | inl five ↦ absurd (not five)
      | inr well ↦
          let run = well.ran.run in
          let e = none_listed before now run.failed run.told calm.lines in
          let is = subst (λ (ls : List TheLine). IsRunOver orders s.periods (is_listed ls) before now r) (sym e) over in
          record {
            done = well.zero;
            leaves = subst (λ (ls : List TheLine). Leaves r (is_listed ls) before now) e (run.leaves r is);
            text = subst (λ (t : List ℕ). Appends desk.written desk'.written t) (run.text_is r is ∙ ap (text_of r) e) well.text;
            all_read = well.to_come;
          }
    ]

-- ---- so it is of `run` and of `save`

module _ (good : GoodOrBad) (one : SpellsOneList) (s : Settings) (before now : ℕ → Side → LineState) (desk desk' : DeskState) (status : ℕ) (orders : List Order)
    (told : TellsOrders orders desk) where
  pub run_ended : (status ≡ 0) ⊎ (status ≡ 4) ⊎ (status ≡ 6) → CarriesRun s before now desk desk' status → RunEnded orders s before now desk desk' status
  run_ended due carried = ended report_told good one s (RunsOrders s before now desk' status) before now desk desk' status orders told
      (told_by_run s before now desk' status orders) carried due

  pub run_leaves : (status ≡ 0) ⊎ (status ≡ 4) ⊎ (status ≡ 6) → NoneRose before now → CarriesRun s before now desk desk' status →
      (r : Run) → IsRunOver orders s.periods (λ c side. false) before now r → Leaves r (λ c side. false) before now
  run_leaves due none carried = leaves report_told good one s (RunsOrders s before now desk' status) before now desk desk' status orders told
      (told_by_run s before now desk' status orders) carried due none

  pub run_headline : (status ≡ 0) ⊎ (status ≡ 4) ⊎ (status ≡ 6) → NoneRose before now → CarriesRun s before now desk desk' status →
      (r : Run) → IsRunOver orders s.periods (λ c side. false) before now r → Headline r (λ c side. false) before now
  run_headline due none carried = headline report_told good one s (RunsOrders s before now desk' status) before now desk desk' status orders told
      (told_by_run s before now desk' status orders) carried due none

  pub run_cut_short : CarriesRun s before now desk desk' status → IsCutShort orders s.batch s.periods before now
  run_cut_short carried = cut_short report_told good one s (RunsOrders s before now desk' status) before now desk desk' status orders told
      (told_by_run s before now desk' status orders) carried

  pub run_complete : IsCalmRun before now desk desk' → CarriesRun s before now desk desk' status → (status ≡ 0) ⊎ (status ≡ 5)
  run_complete calm carried = complete report_told good one s (RunsOrders s before now desk' status) before now desk desk' status orders told
      (told_by_run s before now desk' status orders) carried calm

  pub run_clean : IsCalmRun before now desk desk' → CarriesRun s before now desk desk' status → status ≢ 5 →
      (r : Run) → IsRunOver orders s.periods (λ c side. false) before now r → CleanFarm r before now desk desk' status
  run_clean calm carried = clean report_told good one s (RunsOrders s before now desk' status) before now desk desk' status orders told
      (told_by_run s before now desk' status orders) carried calm

  pub save_ended : (status ≡ 0) ⊎ (status ≡ 4) ⊎ (status ≡ 6) → CarriesSave s before now desk desk' status → SaveEnded orders s before now desk desk' status
  save_ended due carried = ended mark_told good one s (SavesOrders s before now desk' status) before now desk desk' status orders told
      (told_by_save s before now desk' status orders) carried due

  pub save_leaves : (status ≡ 0) ⊎ (status ≡ 4) ⊎ (status ≡ 6) → NoneRose before now → CarriesSave s before now desk desk' status →
      (r : Run) → IsRunOver orders s.periods (λ c side. false) before now r → Leaves r (λ c side. false) before now
  save_leaves due none carried = leaves mark_told good one s (SavesOrders s before now desk' status) before now desk desk' status orders told
      (told_by_save s before now desk' status orders) carried due none

  pub save_headline : (status ≡ 0) ⊎ (status ≡ 4) ⊎ (status ≡ 6) → NoneRose before now → CarriesSave s before now desk desk' status →
      (r : Run) → IsRunOver orders s.periods (λ c side. false) before now r → Headline r (λ c side. false) before now
  save_headline due none carried = headline mark_told good one s (SavesOrders s before now desk' status) before now desk desk' status orders told
      (told_by_save s before now desk' status orders) carried due none

  pub save_cut_short : CarriesSave s before now desk desk' status → IsCutShort orders s.batch s.periods before now
  save_cut_short carried = cut_short mark_told good one s (SavesOrders s before now desk' status) before now desk desk' status orders told
      (told_by_save s before now desk' status orders) carried

  pub save_complete : IsCalmRun before now desk desk' → CarriesSave s before now desk desk' status → (status ≡ 0) ⊎ (status ≡ 5)
  save_complete calm carried = complete mark_told good one s (SavesOrders s before now desk' status) before now desk desk' status orders told
      (told_by_save s before now desk' status orders) carried calm

  pub save_clean : IsCalmRun before now desk desk' → CarriesSave s before now desk desk' status → status ≢ 5 →
      (r : Run) → IsRunOver orders s.periods (λ c side. false) before now r → CleanSave r before now desk desk' status
  save_clean calm carried = clean mark_told good one s (SavesOrders s before now desk' status) before now desk desk' status orders told
      (told_by_save s before now desk' status orders) carried calm
