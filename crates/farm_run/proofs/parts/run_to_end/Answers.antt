use Rattle.std.proofs.Common.{◌≡◌, sym, ◌∙◌, ℕ, ◌≤◌, length, arith}
use Rattle.std.proofs.lemmas.Result.{IfOk-from_err}
use Rattle.trau_io.specs.declared.line.Side.{Side}
use Rattle.trau_io.specs.Lines.{LineState}
use Rattle.farm_report.specs.View.{ReportView}
use Rattle.run_spec.specs.Run.{Run}
use Rattle.run_spec.specs.Facts.{report_of}
use Rattle.farm_run.specs.declared.stage.Stage.{Stage}
use Rattle.farm_run.specs.Noted.{IsAtEnd}
use Rattle.farm_run.specs.Stages.{Reaches}
use Rattle.farm_run.specs.Parts.{RunsToEnd}
use Rattle.farm_run.proofs.Clocks.Stepping.{ok_both}
use Rattle.farm_run.proofs.Lines.Cutting.{on_err}
use Rattle.farm_run.proofs.parts.run_to_end.Goals as goal

pub finish-requires-clause-stage : goal.finish-requires-clause-stage
finish-requires-clause-stage g c = c.in_ok-last.ensures.reaches.stage

pub returns-in_err-last-clause-ends : goal.returns-in_err-last-clause-ends
returns-in_err-last-clause-ends g c = IfOk-from_err _ _ c.from_residual.ensures.0

pub returns-in_err-last-clause-cut : goal.returns-in_err-last-clause-cut
returns-in_err-last-clause-cut g c = on_err _ c.in_err-last.ensures.cut

pub returns-in_err-last-clause-sides : goal.returns-in_err-last-clause-sides
returns-in_err-last-clause-sides g c = let after = c.in_err-last.ensures.cut in let h = after.2 in h.sides

pub returns-clause-ends : goal.returns-clause-ends
returns-clause-ends g c =
    let before : ℕ → Side → LineState = g.T.Trunk.lines c.args.trunk.now in
    let now : ℕ → Side → LineState = g.T.Trunk.lines c.work_until.new.trunk in
    let u = c.in_ok-last.last in
    ok_both (λ (report : ReportView). report.failed ≡ c.in_ok-last.last.farm.failed)
    (λ (report : ReportView). (r : Run) (t : ℕ) → IsAtEnd r t c.in_ok-last.last.board c.in_ok-last.last.farm.calls c.in_ok-last.last.farm.tallies
    c.in_ok-last.last.notes → r.periods ≡ c.in_ok-last.last.clock → length r.orders ≡ c.args.count → report ≡ report_of r report.failed)
    (λ (report : ReportView). RunsToEnd c.args.pace.now.batch c.args.stage c.args.count c.args.periods before now report) c.finish.result
    (λ report failed reports. record {
      last = u;
      clock = c.in_ok-last.ensures.clock;
      reaches = c.in_ok-last.ensures.reaches;
      failed = failed;
      reports = λ r t end q. reports r t end (q ∙ sym c.in_ok-last.ensures.clock);
    }) c.finish.ensures.failed c.finish.ensures.reports

pub returns-clause-cut : goal.returns-clause-cut
returns-clause-cut g c =
    let after : (after : Stage) × (after.clock ≤ c.args.periods)
    × Reaches c.args.pace.now.batch c.args.stage after (g.T.Trunk.lines c.args.trunk.now) (g.T.Trunk.lines c.work_until.new.trunk) =
    (c.in_ok-last.last, omega (arith, c.in_ok-last.ensures.clock), c.in_ok-last.ensures.reaches) in
    on_err _ after

pub returns-clause-sides : goal.returns-clause-sides
returns-clause-sides g c = c.in_ok-last.ensures.reaches.sides
