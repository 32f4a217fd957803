use Rattle.std.proofs.Common.{pos}
use Rattle.trau_num.proofs.Fill.{Filled}
use Rattle.trau_num.specs.Num.{entry}
use Rattle.fr_lpc.specs.Ratios.{ratio_of}
use Rattle.fr_lpc.proofs.ratios.log_area_ratios.Given as goal

abbrev pub invariant-loop-i : goal.invariant-loop-i
invariant-loop-i l = Filled (pos 0) (λ k. ratio_of (entry l.rs k)) l.lar 8 l.i
