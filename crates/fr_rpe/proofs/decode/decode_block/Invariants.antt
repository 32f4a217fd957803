use Rattle.std.proofs.Common.{get_or}
use Rattle.fr_rpe.specs.Scale.{scale_of}
use Rattle.fr_rpe.specs.Pulses.{pulse_of}
use Rattle.fr_rpe.proofs.Grid.{Placed}
use Rattle.fr_rpe.proofs.decode.decode_block.Given as goal

abbrev pub invariant-loop-i : goal.invariant-loop-i
invariant-loop-i l = Placed l.mc l.i (λ i. pulse_of (scale_of l.fn.xmaxc) (get_or l.xmc i 0)) l.ep
