use Rattle.trau_lanes.proofs.Eight.{shifted_in}
use Rattle.trau_lanes.proofs.shift_in.Goals as goal

pub returns : goal.returns
returns c = shifted_in c.args.first c.args.lanes c.ranges.first c.requires
