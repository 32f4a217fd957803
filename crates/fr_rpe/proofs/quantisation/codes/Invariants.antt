use Rattle.std.proofs.Common.{ℕ, ◌<◌, pos, get_or}
use Rattle.trau_num.proofs.Fill.{Filled}
use Rattle.fr_rpe.specs.Scale.{scale_of}
use Rattle.fr_rpe.specs.Quantisation.{pulse_code_of}
use Rattle.fr_rpe.proofs.quantisation.codes.Given as goal

abbrev pub invariant-loop-i : goal.invariant-loop-i
invariant-loop-i l = record {
  filled : Filled 0 (λ i. pulse_code_of (scale_of l.xmaxc) (get_or l.pulses i (pos 0))) l.xmc 13 l.i;
  below_8 : (k : ℕ) → k < l.i → get_or l.xmc k 0 < 8;
}
