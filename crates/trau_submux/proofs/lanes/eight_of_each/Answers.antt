use Rattle.trau_submux.proofs.Vectors.{of_each}
use Rattle.trau_submux.proofs.lanes.eight_of_each.Goals as goal

pub returns : goal.returns
returns c = of_each c.args.slot.now c.thirty_two_at-octets.result c.turned.result.0 c.turned.result.1 c.args.at c.requires c.thirty_two_at-octets.ensures
    c.turned.ensures
