use Rattle.std.proofs.Common.{pos}
use Rattle.trau_num.specs.Num.{mult_r_of}
use Rattle.trau_num.proofs.Fill.{Filled}
use Rattle.fr_long.specs.Gain.{gain_of}
use Rattle.fr_long.specs.Synthesis.{sample_before}
use Rattle.fr_long.proofs.encoder.predicted.Given as goal

abbrev pub invariant-loop-k : goal.invariant-loop-k
invariant-loop-k l = Filled (pos 0) (λ k. mult_r_of (gain_of l.fn.bc) (sample_before l.earlier l.fn.nc k)) l.dpp 40 l.k
