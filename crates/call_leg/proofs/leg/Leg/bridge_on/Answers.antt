use Rattle.std.proofs.Common.{sym, subst, ap, ◌∙◌}
use Rattle.call_leg.specs.Settings.{with_bridge}
use Rattle.call_leg.specs.Stands.{Stands}
use Rattle.call_leg.specs.Step.{begin_bridge}
use Rattle.call_leg.specs.Halves.{UpMemory, joined, up_bridged}
use Rattle.call_leg.proofs.OrderLaws.{begin-stands}
use Rattle.call_leg.proofs.leg.Leg.bridge_on.Goals as goal

pub returns-clause-step : goal.returns-clause-step
returns-clause-step c =
    ap (λ (u : UpMemory). joined u c.bridge_on-2.new.self) c.bridge_on.ensures.step ∙ ap (joined (up_bridged c.self.inside.up)) c.bridge_on-2.ensures
    ∙ ap begin_bridge c.self.view_is

pub returns-clause-history : goal.returns-clause-history
returns-clause-history c = λ who ts now h n. subst (Stands who ts (with_bridge now)) (sym (returns-clause-step c)) (begin-stands who ts now c.args.self.now n h)
