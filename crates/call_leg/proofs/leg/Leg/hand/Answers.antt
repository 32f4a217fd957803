use Rattle.std.proofs.Common.{sym, subst, ap, ◌∙◌, Some}
use Rattle.trau_params.specs.Bits260.{bits260}
use Rattle.rx_handler.specs.State.{effective_fields}
use Rattle.call_leg.specs.Uplink.{handed_fields}
use Rattle.call_leg.specs.Memory.{LegMemory}
use Rattle.call_leg.specs.Stands.{Midway}
use Rattle.call_leg.specs.Step.{with_down, after_handing}
use Rattle.call_leg.specs.Halves.{joined}
use Rattle.call_leg.proofs.LegLaws.{handing-stands}
use Rattle.call_leg.proofs.leg.Leg.hand.Goals as goal

pub returns-clause-step : goal.returns-clause-step
returns-clause-step c =
    ap (joined c.self.inside.up) c.hand.ensures ∙ ap (λ (m : LegMemory). with_down m (after_handing m.down (effective_fields c.args.e))) c.self.view_is

pub returns-clause-history : goal.returns-clause-history
returns-clause-history c = λ who ts now up h.
    subst (Midway who ts now up (Some (bits260 (handed_fields (effective_fields c.args.e))))) (sym (returns-clause-step c))
    (handing-stands who ts now up (effective_fields c.args.e) c.args.self.now h)
