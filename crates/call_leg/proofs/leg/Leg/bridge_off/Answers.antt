use Rattle.std.proofs.Common.{sym, subst, ap, ◌∙◌}
use Rattle.call_leg.specs.Settings.{without_bridge}
use Rattle.call_leg.specs.Memory.{LegMemory}
use Rattle.call_leg.specs.Stands.{Stands}
use Rattle.call_leg.specs.Step.{with_down, bridge_over}
use Rattle.call_leg.specs.Halves.{UpMemory, joined}
use Rattle.call_leg.proofs.OrderLaws.{end-stands}
use Rattle.call_leg.proofs.leg.Leg.bridge_off.Goals as goal

pub returns-clause-step : goal.returns-clause-step
returns-clause-step c =
    ap (λ (u : UpMemory). joined u c.end_bridge.new.self) c.agree.ensures.step ∙ ap (joined c.self.inside.up) c.end_bridge.ensures
    ∙ ap (λ (m : LegMemory). with_down m (bridge_over m.down)) c.self.view_is

pub returns-clause-history : goal.returns-clause-history
returns-clause-history c = λ who ts now h b. subst (Stands who ts (without_bridge now)) (sym (returns-clause-step c))
    (end-stands who ts now c.args.self.now b h)
