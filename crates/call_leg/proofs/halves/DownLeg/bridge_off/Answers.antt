use Rattle.std.proofs.Common.{sym, subst}
use Rattle.call_leg.specs.Settings.{without_bridge}
use Rattle.call_leg.specs.Places.{Between}
use Rattle.call_leg.proofs.HalfLaws.{down_off-stands}
use Rattle.call_leg.proofs.halves.DownLeg.bridge_off.Goals as goal

pub returns-clause-history : goal.returns-clause-history
returns-clause-history c = λ who ts now h. subst (Between who ts (without_bridge now)) (sym c.end_bridge.ensures)
    (down_off-stands who ts now c.args.self.now c.requires h)
