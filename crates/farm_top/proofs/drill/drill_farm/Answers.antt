use Rattle.std.proofs.Common.{List, ℕ, inl, subst, string_bytes}
use Rattle.drill_run.specs.Drilled.{IsDrilled, drilled_run}
use Rattle.farm_run.specs.declared.pace.Pace.{Pace}
use Rattle.farm_run.specs.Runs.{none_fails}
use Rattle.farm_top.specs.Drill.{TellsWhole}
use Rattle.farm_top.proofs.Drilling.{drilled_and_told}
use Rattle.farm_top.proofs.drill.drill_farm.Goals as goal

pub returns-in-Ok : goal.returns-in-Ok
returns-in-Ok g c =
    let drilled = subst (λ (p : Pace). IsDrilled c.args.seed c.args.calls p.periods (string_bytes c.in-Ok.text)) c.pace_of.ensures c.in-Ok.ensures in
    let headline = c.lines_have_the_headline.ensures.whole
    (drilled_run c.args.seed c.args.calls c.args.settings.periods) none_fails drilled.before drilled.now drilled.ordered drilled.leaves in
    let tells = subst (λ (text : List ℕ). TellsWhole text (g.D.Desk.desk c.args.desk.now) (g.D.Desk.desk c.tell_whole.new.desk) c.tell_whole.result)
    c.as_bytes.ensures.value c.tell_whole.ensures in
    inl (drilled_and_told _ _ _ _ _ _ _ drilled headline tells)
