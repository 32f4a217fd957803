-- A resumed run that is cut short, and one that isn't.
use Rattle.std.proofs.Common.{◌≡◌, inl, inr, ℕ, ◌*◌, max, List, [], ◌∷◌, drop, sym, ◌∙◌, subst, arith}
use Rattle.trau_io.specs.declared.line.Line.{Line as TheLine}
use Rattle.trau_io.specs.declared.line.Side.{Side}
use Rattle.trau_io.specs.declared.line.Side.TheVariants.{Down, Out}
use Rattle.trau_io.specs.Lines.{LineState}
use Rattle.trau_io.specs.Desks.{DeskState}
use Rattle.trau_orders.specs.declared.order.Order.{Order}
use Rattle.trau_orders.specs.Lists.{AreOrders}
use Rattle.farm_checkpoint.specs.Marks.{MarkView}
use Rattle.farm_orders.specs.declared.marked.MarkedOrders.{MarkedOrders}
use Rattle.run_spec.specs.Run.{worked_to}
use Rattle.run_spec.specs.Lines.{out_of_call, down_of_call}
use Rattle.farm_run.specs.Runs.{FailedBy, ReadPast, is_listed}
use Rattle.farm_run.specs.Resuming.{IsResumeCutShort, StopsFrom}
use Rattle.farm_run.proofs.Lines.Stopping.{stops_all_from}
use Rattle.farm_run.proofs.Marked.Resumption.{unbegun_cut}
use Rattle.command_words.specs.declared.asked.Settings.{Settings}
use Rattle.farm_top.specs.Farm.{AllStay, TellsRun, status_of_run}
use Rattle.farm_top.specs.Resume.{ResumesAndTells}
use Rattle.farm_top.proofs.ToldRuns.{front_whole}

-- a run that was carried to its end has what it has where it is cut short
pub cut_whole : (marked : MarkedOrders) (s : Settings) (before now : ℕ → Side → LineState) (desk desk' : DeskState) (status : ℕ) →
    AreOrders marked.orders → ResumesAndTells marked s before now desk desk' status →
    IsResumeCutShort marked.orders s.batch (max marked.mark.period s.periods) marked.mark before now
cut_whole marked s before now desk desk' status are ran =
    let report = ran.report in
    let from = marked.mark.period in
    record {
      fails = is_listed report.failed;
      told = ran.resumes.failed.failures;
      sides = ran.resumes.sides;
      reads = ran.resumes.reads;
      there = ran.resumes.there;
      held = λ r over differs. absurd (differs (ran.resumes.same_mark r over));
      fronts = λ r over.
          let l = ran.resumes.leaves r over in
          record {
            out = λ c i. front_whole (is_listed report.failed c Out) (before c Out) (now c Out) (drop (160 * worked_to r from c) (out_of_call r c)) (l.out c i);
            down = λ c i. front_whole (is_listed report.failed c Down) (before c Down) (now c Down) (drop (40 * worked_to r from c) (down_of_call r c))
                (l.down c i);
            others = l.others;
          };
      clock = max from s.periods;
      within = omega arith;
      stops = λ r over. subst (λ (n : ℕ). StopsFrom r from n (is_listed report.failed) before now) over.same_periods
          (stops_all_from r (subst (λ (os : List Order). AreOrders os) (sym over.same_orders) are) s.batch (is_listed report.failed) before now
          (ran.resumes.short r over) from (ran.resumes.leaves r over));
      opened = ran.resumes.opened;
      short = λ r over. subst (λ (n : ℕ). FailedBy r s.batch n (is_listed report.failed)) over.same_periods (ran.resumes.short r over);
      read_past = λ r over c i ended not.
          subst (λ (n : ℕ). ReadPast r s.batch n (is_listed report.failed) now c) over.same_periods (ran.resumes.read_past r over c i not);
    }

-- no line was used
pub cut_none_from : (orders : List Order) (batch periods : ℕ) (mark : MarkView) (before now : ℕ → Side → LineState) → AllStay before now →
    IsResumeCutShort orders batch periods mark before now
cut_none_from orders batch periods mark before now stay =
    let same : before ≡ now = λ i. λ c. λ side. sym (stay c side) i in
    subst (IsResumeCutShort orders batch periods mark before) same (unbegun_cut orders batch periods mark before)

-- the status of a run that was carried to its end
pub due_of : (failed : List TheLine) (text : List ℕ) (read desk' : DeskState) (status : ℕ) → TellsRun failed text read desk' status → status ≡ 9 → ⊥
due_of failed text read desk' status (inl (inl (is, tells))) nine = not_nine failed (sym nine ∙ is)
  where
    not_nine : (lines : List TheLine) → 9 ≡ status_of_run lines → ⊥
    not_nine [] e = absurd (omega (arith, e))
    not_nine (line ∷ lines) e = absurd (omega (arith, e))
due_of failed text read desk' status (inl (inr (is, tells))) nine = omega (arith, is, nine)
due_of failed text read desk' status (inr ends) nine = let is = ends.status_is in omega (arith, is, nine)
