use Rattle.trau_lanes.proofs.LaneDots.{pairs_of_one}
use Rattle.trau_lanes.proofs.neighbours.Goals as goal

pub returns : goal.returns
returns c = pairs_of_one c.args.lanes c.requires.length c.requires.small
