use Rattle.rx_subst.proofs.Grids.{GridsDrawn}
use Rattle.rx_subst.proofs.lost.grids.Given as goal

abbrev pub invariant-loop-j : goal.invariant-loop-j
invariant-loop-j l = GridsDrawn l.initial.draw.r l.mc l.draw.r l.j
