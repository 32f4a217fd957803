use Rattle.rx_noise.proofs.Drawn.{BlocksDrawn}
use Rattle.rx_noise.proofs.excitation.excitation.Given as goal

abbrev pub invariant-loop-j : goal.invariant-loop-j
invariant-loop-j l = BlocksDrawn l.initial.draw.r l.mc l.xmc l.draw.r l.j
