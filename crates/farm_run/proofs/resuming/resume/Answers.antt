use Rattle.std.proofs.Common.{◌≡◌, refl, ap, ◌∙◌, ℕ, length, arith}
use Rattle.std.specs.Prelude.{max}
use Rattle.trau_io.specs.declared.line.Side.{Side}
use Rattle.trau_io.specs.Lines.{LineState}
use Rattle.farm_checkpoint.specs.Marks.{MarkView}
use Rattle.farm_run.specs.declared.outgoing.Outgoing.TheVariants.{Held}
use Rattle.farm_run.specs.Parts.{HeldTo}
use Rattle.farm_run.proofs.Lines.Cutting.{on_err}
use Rattle.farm_run.proofs.Marked.Resumption.{unbegun_cut}
use Rattle.farm_run.proofs.Marked.Parts.{ok_then, err_then, held_short}
use Rattle.farm_run.proofs.Lines.Sides.{sides_more}
use Rattle.farm_run.proofs.resuming.resume.Goals as goal

pub returns-in_err-new-clause-cut : goal.returns-in_err-new-clause-cut
returns-in_err-new-clause-cut g c =
    on_err _ (unbegun_cut c.args.orders c.args.pace.now.batch (max c.args.mark.now.period c.args.pace.now.periods) c.args.mark.now (g.T.Trunk.lines c.args.trunk.now))

pub returns-in_err-marked-clause-cut : goal.returns-in_err-marked-clause-cut
returns-in_err-marked-clause-cut g c =
    let period : c.mark.inside.period ≡ c.args.mark.now.period = omega (arith, ap (λ (v : MarkView). v.period) c.mark.view_is) in
    on_err _ (held_short c.args.orders c.args.pace.now.batch (max c.args.mark.now.period c.args.pace.now.periods) c.mark.inside.period c.args.mark.now
    (Held c.in_ok-new.field-0) (g.T.Trunk.lines c.args.trunk.now) (g.T.Trunk.lines c.run_to.new.trunk) refl (omega (arith, period)) (omega (arith, period))
    c.in_err-marked.ensures.cut)

pub go_on-requires-clause-stage : goal.go_on-requires-clause-stage
go_on-requires-clause-stage g c κs lives = c.in_ok-marked.ensures.comes.reaches.stage

pub go_on-requires-clause-rising : goal.go_on-requires-clause-rising
go_on-requires-clause-rising g c κs lives = c.requires.rising

pub go_on-requires-clause-clock : goal.go_on-requires-clause-clock
go_on-requires-clause-clock g c κs lives =
    let period : c.mark.inside.period ≡ c.args.mark.now.period = omega (arith, ap (λ (v : MarkView). v.period) c.mark.view_is) in
    c.in_ok-marked.ensures.comes.clock ∙ period

pub returns-clause-resumes : goal.returns-clause-resumes
returns-clause-resumes g c =
    let first : ℕ → Side → LineState = g.T.Trunk.lines c.args.trunk.now in
    let x = c.in_ok-marked.ensures.comes in
    let held : HeldTo c.args.orders c.args.pace.now.batch first (g.T.Trunk.lines c.run_to.new.trunk) c.in_ok-marked.marked = record {
      outgoing = Held c.in_ok-new.field-0;
      held = refl;
      summed = refl;
      none = λ d side. ap (λ (sums : ℕ → Side → ℕ). sums d side) c.in_ok-new.ensures;
      start = x.first;
      is_first = x.is_first;
      reaches = x.reaches;
    } in
    ok_then c.go_on.result c.go_on.ensures.resumes (λ resumed told. told c.args.orders first held (ap length c.list-count.ensures.value))

pub returns-clause-cut : goal.returns-clause-cut
returns-clause-cut g c =
    let first : ℕ → Side → LineState = g.T.Trunk.lines c.args.trunk.now in
    let x = c.in_ok-marked.ensures.comes in
    let held : HeldTo c.args.orders c.args.pace.now.batch first (g.T.Trunk.lines c.run_to.new.trunk) c.in_ok-marked.marked = record {
      outgoing = Held c.in_ok-new.field-0;
      held = refl;
      summed = refl;
      none = λ d side. ap (λ (sums : ℕ → Side → ℕ). sums d side) c.in_ok-new.ensures;
      start = x.first;
      is_first = x.is_first;
      reaches = x.reaches;
    } in
    err_then c.go_on.result c.go_on.ensures.cut (λ stops. stops c.args.orders first held)

pub returns-clause-sides : goal.returns-clause-sides
returns-clause-sides g c = sides_more _ _ _ c.run_to.ensures.sides c.go_on.ensures.sides
