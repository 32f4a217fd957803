use Rattle.std.proofs.Common.{pos, arith}
use Rattle.trau_num.proofs.Fill.{fill_all}
use Rattle.fr_long.specs.Prediction.{reconstructed_of}
use Rattle.fr_long.proofs.encoder.reconstructed.Goals as goal

pub returns : goal.returns
unfolding reconstructed_of
returns c = fill_all (pos 0) _ c.loop-k.dp 40 c.loop-k.k (omega arith) c.loop-k.invariant
