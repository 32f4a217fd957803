use Rattle.std.proofs.Common.{◌≡◌, refl, sym, ap, ◌∙◌, ℕ, ◌≤◌, map, arith}
use Rattle.std.specs.Prelude.{max}
use Rattle.trau_io.specs.declared.line.Side.{Side}
use Rattle.trau_io.specs.Lines.{LineState}
use Rattle.farm_checkpoint.specs.Marks.{MarkView}
use Rattle.farm_run.specs.declared.stage.Stage.{Stage}
use Rattle.farm_run.specs.Marking.{entry_of}
use Rattle.farm_run.specs.Stages.{Reaches}
use Rattle.farm_run.specs.Parts.{StopsOn}
use Rattle.farm_run.proofs.Lines.Cutting.{on_err}
use Rattle.farm_run.proofs.Marked.Resumption.{held_cut, difference_told, written_cut, resumes_told}
use Rattle.farm_run.proofs.resuming.go_on.Goals as goal

pub returns-in_err-found-clause-cut : goal.returns-in_err-found-clause-cut
returns-in_err-found-clause-cut g c =
    let lines : ℕ → Side → LineState = g.T.Trunk.lines c.args.trunk.now in
    let stops : StopsOn c.args.pace.now c.args.mark.now c.args.marked lines lines = λ os first m.
    let after : (after : Stage) × (after.clock ≤ c.args.marked.clock) × Reaches c.args.pace.now.batch m.start after first lines =
    (c.args.marked, omega arith, m.reaches) in
    held_cut os c.args.pace.now.batch (max c.args.mark.now.period c.args.pace.now.periods) c.args.marked.clock c.args.mark.now m.outgoing m.start first lines
    m.is_first m.held (omega (arith, c.requires.clock)) (omega (arith, c.requires.clock)) after in
    on_err _ stops

pub returns-in-Some-clause-resumes : goal.returns-in-Some-clause-resumes
returns-in-Some-clause-resumes g c = λ os first m number.
    difference_told os c.args.pace.now c.args.mark.now m.outgoing m.start c.args.marked first (g.T.Trunk.lines c.args.trunk.now) m.is_first m.held m.summed
    m.none m.reaches c.requires.clock c.in_ok-found.ensures.live c.in_ok-found.ensures.rising (map (entry_of c.args.marked) c.args.marked.farm.live) refl
    c.in-Some.call (c.in_ok-found.ensures.some c.in-Some.call c.in-Some.is)

pub returns-in_err-report-clause-cut : goal.returns-in_err-report-clause-cut
returns-in_err-report-clause-cut g c =
    let period : c.mark.inside.period ≡ c.args.mark.now.period = omega (arith, ap (λ (v : MarkView). v.period) c.mark.view_is) in
    let until : c.max-periods.result ≡ max c.args.mark.now.period c.args.pace.now.periods = omega (arith, c.max-periods.ensures, period) in
    let same = c.in_ok-found.ensures.none c.in_default.is in
    let mid : ℕ → Side → LineState = g.T.Trunk.lines c.args.trunk.now in
    let now : ℕ → Side → LineState = g.T.Trunk.lines c.run_to_end.new.trunk in
    let after = c.in_err-report.ensures.cut in
    let stops : StopsOn c.args.pace.now c.args.mark.now c.args.marked mid now = λ os first m.
    written_cut os c.args.pace.now c.args.mark.now m.outgoing m.start c.args.marked first mid m.is_first m.held m.summed m.none m.reaches c.requires.clock
    c.in_ok-found.ensures.live c.in_ok-found.ensures.rising (map (entry_of c.args.marked) c.args.marked.farm.live) refl
    now after.0 after.2 same (let l = after.1 in omega (arith, l, until)) in
    on_err _ stops

pub returns-clause-resumes : goal.returns-clause-resumes
returns-clause-resumes g c = λ os first m number.
    let period : c.mark.inside.period ≡ c.args.mark.now.period = omega (arith, ap (λ (v : MarkView). v.period) c.mark.view_is) in
    let until : c.max-periods.result ≡ max c.args.mark.now.period c.args.pace.now.periods = omega (arith, c.max-periods.ensures, period) in
    let same = c.in_ok-found.ensures.none c.in_default.is in
    let x = c.in_ok-report.ensures.ends in
    resumes_told os c.args.pace.now c.args.mark.now m.outgoing m.start c.args.marked first (g.T.Trunk.lines c.args.trunk.now) m.is_first m.held m.summed
    m.none m.reaches c.requires.clock c.in_ok-found.ensures.live c.in_ok-found.ensures.rising (map (entry_of c.args.marked) c.args.marked.farm.live) refl
    (g.T.Trunk.lines c.run_to_end.new.trunk) x.last x.reaches same (x.clock ∙ until) _ number _ x.failed
    (λ r t end q. x.reports r t end (q ∙ sym until))

pub returns-clause-sides : goal.returns-clause-sides
returns-clause-sides g c = c.run_to_end.ensures.sides
