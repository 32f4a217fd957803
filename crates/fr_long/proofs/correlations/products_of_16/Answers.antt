use Rattle.std.proofs.Common.{◌*ℤ◌}
use Rattle.trau_lanes.proofs.LaneDots.{lane_by_lane, lane_product}
use Rattle.fr_long.proofs.correlations.products_of_16.Goals as goal

pub returns : goal.returns
returns c = lane_by_lane _ ◌*ℤ◌ 32767 32768 lane_product c.args.a c.args.b c.requires.words_a c.requires.words_b
