use Rattle.std.proofs.Common.{pos}
use Rattle.trau_num.specs.Num.{clamp16, floor_shr}
use Rattle.trau_num.proofs.Fill.{Filled}
use Rattle.fr_rpe.specs.Weighting.{padded_block, weighted_sum}
use Rattle.fr_rpe.proofs.weighting.weighted.Given as goal

abbrev pub invariant-loop-k : goal.invariant-loop-k
invariant-loop-k l = Filled (pos 0) (λ k. clamp16 (floor_shr (weighted_sum (padded_block l.e) k) 13)) l.x 40 l.k
