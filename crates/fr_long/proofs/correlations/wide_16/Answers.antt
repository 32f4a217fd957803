use Rattle.trau_lanes.proofs.LaneDots.{lanes_widened, lane_widened}
use Rattle.fr_long.proofs.correlations.wide_16.Goals as goal

pub returns : goal.returns
returns c = lanes_widened _ lane_widened c.args.samples c.requires
