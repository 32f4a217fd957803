use Rattle.std.proofs.Common.{get_or, pos}
use Rattle.trau_num.proofs.Fill.{Filled}
use Rattle.trau_num.specs.Num.{entry}
use Rattle.trau_params.specs.Ratios.{offsets, least_ratios}
use Rattle.fr_short.specs.Ratios.{decoded_ratio, inverses}
use Rattle.fr_short.proofs.ratios.decode_larc.Given as goal

abbrev pub invariant-loop-i : goal.invariant-loop-i
invariant-loop-i l = Filled (pos 0) (λ k. decoded_ratio (entry least_ratios k) (entry offsets k) (entry inverses k) (get_or l.larc k 0)) l.ratios 8 l.i
