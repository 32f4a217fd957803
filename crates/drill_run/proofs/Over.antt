-- The run of a drill, in which no line failed, is the one of the definition.
use Rattle.std.proofs.Common.{◌≡◌, refl, sym, ap, ◌∙◌, subst, ℕ, ◌≤◌, List, []}
use Rattle.trau_io.specs.declared.line.Line.{Line}
use Rattle.trau_io.specs.declared.line.Side.{Side}
use Rattle.trau_io.specs.declared.line.Side.TheVariants.{Up, Pcm, Down, Out}
use Rattle.trau_io.specs.Lines.{LineState}
use Rattle.trau_io.specs.Memory.{state_of}
use Rattle.trau_orders.specs.declared.order.Order.{Order}
use Rattle.farm_drill.specs.Lines.{line_of_call}
use Rattle.run_spec.specs.Run.{IsOpened}
use Rattle.run_spec.specs.Facts.{report_of}
use Rattle.farm_report.specs.View.{ReportView}
use Rattle.farm_run.specs.declared.pace.Pace.{Pace}
use Rattle.farm_run.specs.Runs.{IsRunOver, Leaves, is_listed, none_fails}
use Rattle.drill_run.specs.Drilled.{drilled_run}
use Rattle.drill_run.specs.Rooms.{DrillMemory, known_lines}
use Rattle.drill_run.proofs.Quiet.{Drilling, at_first, its_calls, none_failed}

module _ (seed calls periods : ℕ) (d e : DrillMemory) (orders : List Order) (pace : Pace) (report : ReportView)
    (x : Drilling seed calls periods d e orders pace report) where
  none : report.failed ≡ []
  none = none_failed seed calls periods d e orders pace report x

  drawn : (c : ℕ) (s : Side) → 1 ≤ c → c ≤ calls → known_lines d c s ≡ state_of (line_of_call seed c periods s)
  drawn = at_first seed calls periods d e orders pace report x

  -- the run of the definition opens the drill's calls alone
  pub drilled_calls : (c : ℕ) → IsOpened (drilled_run seed calls periods) c → (1 ≤ c) × (c ≤ calls)
  drilled_calls c o = its_calls seed calls periods d e orders pace report x (drilled_run seed calls periods) c (sym x.ordered) o

  -- it is a run over these lines where none fails
  is_over : IsRunOver orders pace.periods none_fails (known_lines d) (known_lines e) (drilled_run seed calls periods)
  is_over = record {
    same_orders = sym x.ordered;
    same_periods = sym x.to_last;
    up = λ c o. (let n = drilled_calls c o in ap (λ (l : LineState). l.to_come) (drawn c Up n.0 n.1));
    pcm = λ c o. (let n = drilled_calls c o in ap (λ (l : LineState). l.to_come) (drawn c Pcm n.0 n.1));
    up_failed = λ c. refl;
    pcm_failed = λ c. refl;
  }

  -- and so where those fail that are listed
  over_listed : IsRunOver orders pace.periods (is_listed report.failed) (known_lines d) (known_lines e) (drilled_run seed calls periods)
  over_listed =
      subst (λ (ls : List Line). IsRunOver orders pace.periods (is_listed ls) (known_lines d) (known_lines e) (drilled_run seed calls periods))
      (sym none) is_over

  pub report_is : report ≡ report_of (drilled_run seed calls periods) []
  report_is = x.runs.reports (drilled_run seed calls periods) over_listed ∙ ap (report_of (drilled_run seed calls periods)) none

  pub drill_leaves : Leaves (drilled_run seed calls periods) none_fails (known_lines d) (known_lines e)
  drill_leaves =
      subst (λ (ls : List Line). Leaves (drilled_run seed calls periods) (is_listed ls) (known_lines d) (known_lines e)) none
      (x.runs.leaves (drilled_run seed calls periods) over_listed)

  -- behind the run no line of a call has a fault
  pub drill_calm : (c : ℕ) (s : Side) → 1 ≤ c → c ≤ calls → (known_lines e c s).faults ≡ 0
  drill_calm c s first last =
      let kept = x.runs.failed.failures.kept c s (ap (λ (ls : List Line). is_listed ls c s) none) in
      kept ∙ ap (λ (l : LineState). l.faults) (drawn c s first last) ∙ calm s
    where
      calm : (s : Side) → (line_of_call seed c periods s).faults ≡ 0
      calm Up = refl
      calm Pcm = refl
      calm Down = refl
      calm Out = refl
