use Rattle.std.proofs.Common.{pos, [], ◌∷◌}
use Rattle.trau_num.proofs.Fill.{Filled}
use Rattle.tx_dtx.specs.Stretch.{measures_of}
use Rattle.tx_dtx.specs.SilenceDescriptor.{mean_ratio}
use Rattle.tx_dtx.proofs.sid.mean_ratios.Given as goal

abbrev pub invariant-loop-i : goal.invariant-loop-i
invariant-loop-i l = Filled (pos 0) (mean_ratio (measures_of l.a ∷ measures_of l.b ∷ measures_of l.c ∷ measures_of l.d ∷ [])) l.mean 8 l.i
