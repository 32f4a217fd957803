use Rattle.std.proofs.Common.{pos}
use Rattle.trau_num.proofs.Fill.{Filled}
use Rattle.fr_rpe.specs.Scale.{scale_of}
use Rattle.fr_rpe.specs.Pulses.{pulse_of}
use Rattle.fr_rpe.proofs.decode.pulses_by_code.Given as goal

abbrev pub invariant-loop-code : goal.invariant-loop-code
invariant-loop-code l = Filled (pos 0) (pulse_of (scale_of l.fn.xmaxc)) l.pulses 8 l.code
