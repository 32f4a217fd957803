use Rattle.std.proofs.Common.{refl, sym, subst, ap, []}
use Rattle.call_leg.specs.Who.{Who}
use Rattle.call_leg.specs.Settings.{new_settings}
use Rattle.call_leg.specs.Memory.{DownMemory}
use Rattle.call_leg.specs.Places.{Between}
use Rattle.call_leg.proofs.OrderLaws.{home-between}
use Rattle.call_leg.proofs.leg.Leg.new.Goals as goal

pub returns-clause-history : goal.returns-clause-history
returns-clause-history c =
    let who : Who = record { number = c.args.call; law = c.args.law } in
    record {
      up = record {
        law = refl;
        search = c.new-2.ensures.history;
        rx = c.new-3.ensures.history;
        decoder = c.home.ensures.history;
        counts = refl;
        bridged = ap (λ (d : DownMemory). d.bridged) c.in_ok-down.ensures;
      };
      down = subst (Between who [] new_settings) (sym c.in_ok-down.ensures) (home-between who);
    }
