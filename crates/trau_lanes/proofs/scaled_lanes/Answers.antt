use Rattle.trau_lanes.proofs.LaneProducts.{are_products}
use Rattle.trau_lanes.proofs.scaled_lanes.Goals as goal

pub overflow_cast-high-3 : goal.overflow_cast-high-3
overflow_cast-high-3 c = (are_products c.args.factors c.args.values c.requires.factors c.requires.values).high

pub returns : goal.returns
returns c = (are_products c.args.factors c.args.values c.requires.factors c.requires.values).sums
