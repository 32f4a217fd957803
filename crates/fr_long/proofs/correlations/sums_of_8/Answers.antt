use Rattle.std.proofs.Common.{◌+ℤ◌}
use Rattle.trau_lanes.proofs.LaneDots.{lane_by_lane, lane_sum}
use Rattle.fr_long.proofs.correlations.sums_of_8.Goals as goal

pub returns : goal.returns
returns c = lane_by_lane _ ◌+ℤ◌ 1073741823 1073741823 lane_sum c.args.a c.args.b c.requires.small_a c.requires.small_b
