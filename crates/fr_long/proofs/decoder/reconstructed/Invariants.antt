use Rattle.std.proofs.Common.{pos, get_or}
use Rattle.trau_num.specs.Num.{add_of, mult_r_of}
use Rattle.trau_num.proofs.Fill.{Filled}
use Rattle.fr_long.specs.Gain.{gain_of}
use Rattle.fr_long.specs.Synthesis.{sample_before}
use Rattle.fr_long.proofs.decoder.reconstructed.Given as goal

abbrev pub invariant-loop-k : goal.invariant-loop-k
invariant-loop-k l = Filled (pos 0) (λ k. add_of (get_or l.erp k (pos 0)) (mult_r_of (gain_of l.fn.bc) (sample_before l.earlier l.fn.lag k))) l.drp 40 l.k
