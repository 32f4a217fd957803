use Rattle.std.proofs.Common.{ap}
use Rattle.farm_rounds.specs.declared.tally.Tally.{Tally}
use Rattle.farm_rounds.specs.Histories.{whose}
use Rattle.farm_rounds.proofs.Orders.Histories.{standing}
use Rattle.farm_rounds.proofs.farm.Farm.sent.Goals as goal

pub returns-clause-live : goal.returns-clause-live
returns-clause-live c h x s e =
    let p = standing h c.args.self.now.calls c.args.call x s e in
    ap (λ (t : Tally). t.sent) (c.tally.ensures.live p.0 (whose c.args.call x) x.periods x.now p.1 p.2)
