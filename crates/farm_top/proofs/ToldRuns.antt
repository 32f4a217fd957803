-- A run that is told: what the commands `run` and `save` have in common.
use Rattle.std.proofs.Common.{◌≡◌, ◌⊎◌, inl, inr, ℕ, Bool, true, false, List, length, sym, ap, subst, arith}
use Rattle.std.specs.Io.KnownBytes.{Appends}
use Rattle.std.proofs.lemmas.List.{take_all}
use Rattle.trau_io.specs.declared.line.Side.{Side}
use Rattle.trau_io.specs.declared.line.Side.TheVariants.{Down, Out}
use Rattle.trau_io.specs.declared.line.Line.{Line as TheLine}
use Rattle.trau_io.specs.Lines.{LineState}
use Rattle.trau_io.specs.Desks.{DeskState}
use Rattle.trau_orders.specs.declared.order.Order.{Order}
use Rattle.trau_orders.specs.Lists.{AreOrders}
use Rattle.run_spec.specs.Run.{Run}
use Rattle.run_spec.specs.Lines.{out_of_call, down_of_call}
use Rattle.farm_report.specs.Lines.{report_text}
use Rattle.farm_run.specs.Runs.{AreTold, FailedBy, FailedShort, IsRunOver, HasWritten, KeepsSides, Leaves, OnlyOpenedFail, ReadPast, ReadToEnd, ReadsOn, TellsFailed, is_listed}
use Rattle.farm_run.specs.Fronts.{HasFront, IsCutShort, StopsAt}
use Rattle.farm_run.proofs.Lines.Cutting.{cut_first}
use Rattle.farm_run.proofs.Lines.Stopping.{stops_all}
use Rattle.command_words.specs.declared.asked.Settings.{Settings}
use Rattle.farm_top.specs.Farm.{AllStay, LacksMemory, RunsOrders, TellsRun}
use Rattle.farm_top.specs.FarmEnded.{report_told}
use Rattle.farm_top.specs.Headline.{Headline}
use Rattle.farm_top.specs.Save.{SavesOrders, mark_told, saved_text}

-- A run of these orders that was carried to its end, with the text of it that was told.
pub record ToldRun (text_of : Run → List TheLine → List ℕ) (orders : List Order) (s : Settings) (before now : ℕ → Side → LineState) (read desk' : DeskState)
    (status : ℕ) : Type 0 where
  pub failed : List TheLine
  pub text : List ℕ
  pub told : TellsFailed before now failed
  pub sides : KeepsSides before now
  pub reads : ReadsOn before now
  pub leaves : (r : Run) → IsRunOver orders s.periods (is_listed failed) before now r → Leaves r (is_listed failed) before now
  pub headline : (r : Run) → IsRunOver orders s.periods (is_listed failed) before now r → Headline r (is_listed failed) before now
  pub text_is : (r : Run) → IsRunOver orders s.periods (is_listed failed) before now r → text ≡ text_of r failed
  pub opened : (r : Run) → IsRunOver orders s.periods (is_listed failed) before now r → OnlyOpenedFail r (is_listed failed)
  pub short : (r : Run) → IsRunOver orders s.periods (is_listed failed) before now r → FailedShort r s.batch (is_listed failed)
  pub read_past : (r : Run) → IsRunOver orders s.periods (is_listed failed) before now r → ReadToEnd r s.batch (is_listed failed) now
  pub there : AreOrders orders → AreTold before → (r : Run) × IsRunOver orders s.periods (is_listed failed) before now r
  pub tells : TellsRun failed text read desk' status

-- or want of memory cut it short
abbrev pub ToldOrCut : (Run → List TheLine → List ℕ) → Settings → (ℕ → Side → LineState) → (ℕ → Side → LineState) → DeskState → ℕ → List Order → DeskState →
    Type 0
ToldOrCut text_of s before now desk' status orders read =
    ToldRun text_of orders s before now read desk' status ⊎ (IsCutShort orders s.batch s.periods before now × LacksMemory read desk' status)

pub told_by_run : (s : Settings) (before now : ℕ → Side → LineState) (desk' : DeskState) (status : ℕ) (orders : List Order) (read : DeskState) →
    RunsOrders s before now desk' status orders read → ToldOrCut report_told s before now desk' status orders read
told_by_run s before now desk' status orders read (inl ran) =
    let runs = ran.runs in inl (record {
      failed = ran.report.failed;
      text = report_text ran.report;
      told = runs.failed;
      sides = runs.sides;
      reads = runs.reads;
      leaves = runs.leaves;
      headline = ran.headline;
      text_is = λ r over. ap report_text (runs.reports r over);
      opened = runs.opened;
      short = runs.short;
      read_past = runs.read_past;
      there = runs.there;
      tells = ran.tells;
    })
told_by_run s before now desk' status orders read (inr cut) = inr cut

pub told_by_save : (s : Settings) (before now : ℕ → Side → LineState) (desk' : DeskState) (status : ℕ) (orders : List Order) (read : DeskState) →
    SavesOrders s before now desk' status orders read → ToldOrCut mark_told s before now desk' status orders read
told_by_save s before now desk' status orders read (inl ran) =
    let saves = ran.saves in inl (record {
      failed = ran.saved.failed;
      text = saved_text ran.saved.failed ran.saved.mark;
      told = saves.failed;
      sides = saves.sides;
      reads = saves.reads;
      leaves = saves.leaves;
      headline = ran.headline;
      text_is = λ r over. ap (saved_text ran.saved.failed) (saves.marks r over);
      opened = saves.opened;
      short = saves.short;
      read_past = saves.read_past;
      there = saves.there;
      tells = ran.tells;
    })
told_by_save s before now desk' status orders read (inr cut) = inr cut

-- ---- where there was no memory

-- what a line holds that a whole run wrote is a front of it, a proper one where the line failed
pub front_whole : (fails : Bool) (first now : LineState) (octets : List ℕ) → HasWritten fails first now octets → HasFront fails first now octets
front_whole false first now octets w = (length octets, subst (Appends first.written now.written) (sym (take_all (length octets) octets (omega arith))) w)
front_whole true first now octets w = w

-- no line was used
pub cut_none : (orders : List Order) (batch periods : ℕ) (before now : ℕ → Side → LineState) → AllStay before now →
    IsCutShort orders batch periods before now
cut_none orders batch periods before now stay =
    let same : before ≡ now = λ i. λ c. λ side. sym (stay c side) i in
    subst (IsCutShort orders batch periods before) same (cut_first orders batch periods before)

-- a run that was carried to its end has what it has where it is cut short
pub cut_whole : (text_of : Run → List TheLine → List ℕ) (orders : List Order) (s : Settings) (before now : ℕ → Side → LineState) (read desk' : DeskState)
    (status : ℕ) → AreOrders orders →
    ToldRun text_of orders s before now read desk' status → IsCutShort orders s.batch s.periods before now
cut_whole text_of orders s before now read desk' status are ran = record {
  fails = is_listed ran.failed;
  told = ran.told.failures;
  sides = ran.sides;
  reads = ran.reads;
  there = ran.there;
  fronts = λ r over.
      let l = ran.leaves r over in
      record {
        out = λ c i. front_whole (is_listed ran.failed c Out) (before c Out) (now c Out) (out_of_call r c) (l.out c i);
        down = λ c i. front_whole (is_listed ran.failed c Down) (before c Down) (now c Down) (down_of_call r c) (l.down c i);
        others = l.others;
      };
  clock = s.periods;
  within = omega arith;
  stops = λ r over. subst (λ (n : ℕ). StopsAt r n (is_listed ran.failed) before now) over.same_periods
      (stops_all r (subst (λ (os : List Order). AreOrders os) (sym over.same_orders) are) s.batch (is_listed ran.failed) before now (ran.short r over)
      (ran.leaves r over));
  opened = ran.opened;
  short = λ r over. subst (λ (n : ℕ). FailedBy r s.batch n (is_listed ran.failed)) over.same_periods (ran.short r over);
  read_past = λ r over c i ended not. subst (λ (n : ℕ). ReadPast r s.batch n (is_listed ran.failed) now c) over.same_periods (ran.read_past r over c i not);
}
