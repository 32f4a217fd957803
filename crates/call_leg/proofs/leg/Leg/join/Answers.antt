use Rattle.std.proofs.Common.{sym, subst, ap}
use Rattle.call_leg.specs.Stands.{Stands}
use Rattle.call_leg.specs.Halves.{UpMemory, joined}
use Rattle.call_leg.proofs.LegLaws.{join-stands}
use Rattle.call_leg.proofs.leg.Leg.join.Goals as goal

pub returns-clause-step : goal.returns-clause-step
returns-clause-step c = ap (λ (u : UpMemory). joined u c.args.down) c.agree.ensures.step

pub returns-clause-history : goal.returns-clause-history
returns-clause-history c = λ who ts now h k.
    subst (Stands who ts now) (sym (returns-clause-step c)) (join-stands who ts now c.args.up c.args.down h k)
