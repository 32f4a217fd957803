use Rattle.std.proofs.Common.{pos, arith}
use Rattle.trau_num.proofs.Fill.{fill_all}
use Rattle.fr_rpe.specs.Weighting.{weighted_block}
use Rattle.fr_rpe.proofs.weighting.weighted.Goals as goal

pub returns : goal.returns
unfolding weighted_block
returns c = fill_all (pos 0) _ c.loop-k.x 40 c.loop-k.k (omega arith) c.loop-k.invariant
