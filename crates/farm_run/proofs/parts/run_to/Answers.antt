use Rattle.std.proofs.Common.{◌≡◌, ℕ, ◌≤◌, refl, inl, inr}
use Rattle.trau_io.specs.declared.line.Side.{Side}
use Rattle.trau_io.specs.Lines.{LineState}
use Rattle.farm_run.specs.declared.stage.Stage.{Stage}
use Rattle.farm_run.specs.Stages.{Reaches}
use Rattle.farm_run.specs.Parts.{ComesTo, ComesWithin, StopsShort}
use Rattle.farm_run.proofs.Clocks.Stepping.{ok_both}
use Rattle.farm_run.proofs.Lines.Cutting.{on_err}
use Rattle.farm_run.proofs.Marked.Parts.{err_then, either_way}
use Rattle.farm_run.proofs.parts.run_to.Goals as goal

pub returns-in_err-first-clause-cut : goal.returns-in_err-first-clause-cut
returns-in_err-first-clause-cut g c =
    let lines : ℕ → Side → LineState = g.T.Trunk.lines c.args.trunk.now in
    let short : StopsShort c.args.orders c.args.outgoing c.args.pace.now.batch c.args.until lines lines = inl refl in
    on_err _ short

pub returns-clause-comes : goal.returns-clause-comes
returns-clause-comes g c =
    let before : ℕ → Side → LineState = g.T.Trunk.lines c.args.trunk.now in
    let now : ℕ → Side → LineState = g.T.Trunk.lines c.work_until.new.trunk in
    ok_both (λ (u : Stage). u.clock ≡ c.args.until) (λ (u : Stage). Reaches c.args.pace.now.batch c.in_ok-first.first u before now)
    (λ (u : Stage). ComesTo c.args.orders c.args.outgoing c.args.pace.now.batch c.args.until before now u) c.work_until.result
    (λ u clock reaches. record { first = c.in_ok-first.first; is_first = c.in_ok-first.ensures; clock = clock; reaches = reaches })
    c.work_until.ensures.clock c.work_until.ensures.reaches

pub returns-clause-cut : goal.returns-clause-cut
returns-clause-cut g c =
    let before : ℕ → Side → LineState = g.T.Trunk.lines c.args.trunk.now in
    let now : ℕ → Side → LineState = g.T.Trunk.lines c.work_until.new.trunk in
    let within : ((after : Stage) × (after.clock ≤ c.args.until) × Reaches c.args.pace.now.batch c.in_ok-first.first after before now) →
    ComesWithin c.args.orders c.args.outgoing c.args.pace.now.batch c.args.until before now =
    λ after. record { first = c.in_ok-first.first; is_first = c.in_ok-first.ensures; after = after } in
    err_then c.work_until.result c.work_until.ensures.cut (λ after. inr (within after))

pub returns-clause-sides : goal.returns-clause-sides
returns-clause-sides g c = either_way c.work_until.result c.work_until.ensures.reaches c.work_until.ensures.cut (λ u h. h.sides) (λ after. let h = after.2 in h.sides)
