use Rattle.rx_noise.proofs.Drawn.{PulsesDrawn}
use Rattle.rx_noise.proofs.excitation.pulses.Given as goal

abbrev pub invariant-loop-i : goal.invariant-loop-i
invariant-loop-i l = PulsesDrawn l.initial.draw.r l.xmc l.draw.r l.i
