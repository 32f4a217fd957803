-- From what a run leaves to its lines by whole calls.
use Rattle.std.proofs.Common.{◌≡◌, sym, ℕ, ◌*◌, Bool, List, drop, Ok, subst}
use Rattle.trau_bits.specs.Bits.{octets_of}
use Rattle.trau_io.specs.declared.line.Side.{Side}
use Rattle.trau_io.specs.declared.line.Side.TheVariants.{Down, Out}
use Rattle.trau_io.specs.Lines.{LineState}
use Rattle.trau_io.specs.Desks.{DeskState}
use Rattle.trau_orders.specs.declared.order.Order.{Order}
use Rattle.trau_orders.specs.Lists.{AreOrders}
use Rattle.trau_orders.specs.Text.{text_lines}
use Rattle.trau_orders.proofs.Known.{orders_known}
use Rattle.call_spec.specs.Out.{out}
use Rattle.call_spec.specs.Down.{down}
use Rattle.farm_orders.specs.declared.marked.MarkedOrders.{MarkedOrders}
use Rattle.farm_orders.specs.Marked.{ReadsMarked}
use Rattle.farm_orders.specs.Reading.{ReadsOrders}
use Rattle.run_spec.specs.Run.{Run, IsOpened, worked_to}
use Rattle.run_spec.specs.Lines.{down_of_call, out_of_call}
use Rattle.run_calls_spec.specs.Whole.{whole_call}
use Rattle.farm_report.specs.View.{ReportView}
use Rattle.farm_run.specs.declared.pace.Pace.{Pace}
use Rattle.farm_run.specs.Runs.{HasWritten, Leaves, Runs, is_listed}
use Rattle.farm_run.specs.Resuming.{LeavesFrom, ResumesRun}
use Rattle.farm_run.specs.Saving.{SavedView, Saves}
use Rattle.command_words.specs.declared.asked.Settings.{Settings}
use Rattle.farm_top.specs.Farm.{RunsAndTells, TellsReport, TellsRun, pace_of}
use Rattle.run_calls_spec.specs.Handed.{GoesOut, HandsOver}
use Rattle.farm_top.specs.Headline.{Headline, HeadlineFrom}
use Rattle.farm_top.specs.Resume.{ResumesAndTells}
use Rattle.farm_top.specs.Save.{SavesAndTells, saved_text}

-- where the outgoing lines of each opened call are those of a whole call
pub headline_of : (r : Run) (fails : ℕ → Side → Bool) (before now : ℕ → Side → LineState) → ((c : ℕ) → IsOpened r c → out_of_call r c ≡ out (whole_call r c)) →
    ((c : ℕ) → IsOpened r c → down_of_call r c ≡ octets_of (down (whole_call r c))) → HandsOver r → GoesOut r → Leaves r fails before now →
    Headline r fails before now
headline_of r fails before now outs downs hands goes leaves = record {
  out_line = λ c opened. subst (λ (bs : List ℕ). HasWritten (fails c Out) (before c Out) (now c Out) bs) (outs c opened) (leaves.out c opened);
  down_line = λ c opened. subst (λ (bs : List ℕ). HasWritten (fails c Down) (before c Down) (now c Down) bs) (downs c opened) (leaves.down c opened);
  hands_over = hands;
  goes_out = goes;
}

-- orders that were read are those of a run
pub orders_read : (desk read : DeskState) (orders : List Order) → ReadsOrders desk read (Ok orders) → AreOrders orders
orders_read desk read orders reads = orders_known (text_lines reads.given) orders reads.answer.1.0.1 reads.answer.1.1

-- the same where the octets of the periods before one were held back
pub later_headline_of : (r : Run) (from : ℕ) (fails : ℕ → Side → Bool) (before now : ℕ → Side → LineState) →
    ((c : ℕ) → IsOpened r c → out_of_call r c ≡ out (whole_call r c)) →
    ((c : ℕ) → IsOpened r c → down_of_call r c ≡ octets_of (down (whole_call r c))) → HandsOver r → GoesOut r → LeavesFrom r from fails before now →
    HeadlineFrom r from fails before now
later_headline_of r from fails before now outs downs hands goes leaves = record {
  out_line = λ c opened. subst (λ (bs : List ℕ). HasWritten (fails c Out) (before c Out) (now c Out) (drop (160 * worked_to r from c) bs)) (outs c opened)
      (leaves.out c opened);
  down_line = λ c opened. subst (λ (bs : List ℕ). HasWritten (fails c Down) (before c Down) (now c Down) (drop (40 * worked_to r from c) bs)) (downs c opened)
      (leaves.down c opened);
  hands_over = hands;
  goes_out = goes;
}

-- orders behind a mark that were read are those of a run
pub marked_orders_read : (desk read : DeskState) (marked : MarkedOrders) → ReadsMarked desk read (Ok marked) → AreOrders marked.orders
marked_orders_read desk read marked reads =
    let behind = reads.answer.1.1 in
    orders_known (text_lines behind.orders) marked.orders behind.answer.0.1 behind.answer.1

-- **So a run of them has the headline.**
pub ran_and_told : ((r : Run) (fails : ℕ → Side → Bool) (before now : ℕ → Side → LineState) → AreOrders r.orders → Leaves r fails before now →
    Headline r fails before now) →
    (orders : List Order) (s : Settings) (pace : Pace) → pace ≡ pace_of s →
    (before now : ℕ → Side → LineState) (desk desk' : DeskState) (status : ℕ) (report : ReportView) →
    AreOrders orders → Runs orders pace before now report → TellsReport report desk desk' status → RunsAndTells orders (pace_of s) before now desk desk' status
ran_and_told law orders s pace same before now desk desk' status report are runs tells =
    let ours = subst (λ (p : Pace). Runs orders p before now report) same runs in
    record {
      report = report;
      runs = ours;
      headline = λ r over. law r (is_listed report.failed) before now (subst (λ (os : List Order). AreOrders os) (sym over.same_orders) are)
          (ours.leaves r over);
      tells = tells;
    }

-- and so has one to a mark,
pub saved_and_told : ((r : Run) (fails : ℕ → Side → Bool) (before now : ℕ → Side → LineState) → AreOrders r.orders → Leaves r fails before now →
    Headline r fails before now) →
    (orders : List Order) (s : Settings) (pace : Pace) → pace ≡ pace_of s →
    (before now : ℕ → Side → LineState) (desk desk' : DeskState) (status : ℕ) (saved : SavedView) →
    AreOrders orders → Saves orders pace before now saved → TellsRun saved.failed (saved_text saved.failed saved.mark) desk desk' status →
    SavesAndTells orders (pace_of s) before now desk desk' status
saved_and_told law orders s pace same before now desk desk' status saved are saves tells =
    let ours = subst (λ (p : Pace). Saves orders p before now saved) same saves in
    record {
      saved = saved;
      saves = ours;
      headline = λ r over. law r (is_listed saved.failed) before now (subst (λ (os : List Order). AreOrders os) (sym over.same_orders) are)
          (ours.leaves r over);
      tells = tells;
    }

-- and one from a mark on.
pub resumed_and_told : ((r : Run) (from : ℕ) (fails : ℕ → Side → Bool) (before now : ℕ → Side → LineState) → AreOrders r.orders →
    LeavesFrom r from fails before now → HeadlineFrom r from fails before now) →
    (marked : MarkedOrders) (s : Settings) (pace : Pace) → pace ≡ pace_of s →
    (before now : ℕ → Side → LineState) (desk desk' : DeskState) (status : ℕ) (report : ReportView) →
    AreOrders marked.orders → ResumesRun marked.orders pace marked.mark before now report → TellsReport report desk desk' status →
    ResumesAndTells marked s before now desk desk' status
resumed_and_told law marked s pace same before now desk desk' status report are resumes tells =
    let ours = subst (λ (p : Pace). ResumesRun marked.orders p marked.mark before now report) same resumes in
    record {
      report = report;
      resumes = ours;
      headline = λ r over. law r marked.mark.period (is_listed report.failed) before now (subst (λ (os : List Order). AreOrders os) (sym over.same_orders) are)
          (ours.leaves r over);
      tells = tells;
    }
