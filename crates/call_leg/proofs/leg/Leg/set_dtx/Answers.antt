use Rattle.std.proofs.Common.{sym, subst, ap, ◌∙◌}
use Rattle.call_leg.specs.Settings.{with_mode}
use Rattle.call_leg.specs.Memory.{LegMemory}
use Rattle.call_leg.specs.Stands.{Stands}
use Rattle.call_leg.specs.Step.{with_down, set_mode}
use Rattle.call_leg.specs.Halves.{joined}
use Rattle.call_leg.proofs.OrderLaws.{mode-stands}
use Rattle.call_leg.proofs.leg.Leg.set_dtx.Goals as goal

pub returns-clause-step : goal.returns-clause-step
returns-clause-step c =
    ap (joined c.self.inside.up) c.set_dtx.ensures ∙ ap (λ (m : LegMemory). with_down m (set_mode c.args.mode m.down)) c.self.view_is

pub returns-clause-history : goal.returns-clause-history
returns-clause-history c = λ who ts now h. subst (Stands who ts (with_mode c.args.mode now)) (sym (returns-clause-step c))
    (mode-stands who ts now c.args.mode c.args.self.now h)
