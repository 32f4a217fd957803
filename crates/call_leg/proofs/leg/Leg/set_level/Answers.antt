use Rattle.std.proofs.Common.{sym, subst, ap, ◌∙◌, rules, FitsSigned, w16}
use Rattle.std.proofs.lemmas.Int.{to_z-of_z}
use Rattle.call_leg.specs.Settings.{with_level}
use Rattle.call_leg.specs.Memory.{LegMemory}
use Rattle.call_leg.specs.Stands.{Stands}
use Rattle.call_leg.specs.Step.{with_down, set_level}
use Rattle.call_leg.specs.Halves.{joined}
use Rattle.call_leg.proofs.OrderLaws.{level-stands}
use Rattle.call_leg.proofs.leg.Leg.set_level.Goals as goal

pub returns-clause-step : goal.returns-clause-step
returns-clause-step c =
    let f : FitsSigned w16 c.args.level = search rules in
    let set = simp to_z-of_z at c.set_level.ensures in
    ap (joined c.self.inside.up) set ∙ ap (λ (m : LegMemory). with_down m (set_level c.args.level m.down)) c.self.view_is

pub returns-clause-history : goal.returns-clause-history
returns-clause-history c = λ who ts now h. subst (Stands who ts (with_level c.args.level now)) (sym (returns-clause-step c))
    (level-stands who ts now c.args.level c.args.self.now h)
