use Rattle.trau_num.proofs.Greatest.{IsLeastGreatest}
use Rattle.fr_rpe.specs.Selection.{grid_energy}
use Rattle.fr_rpe.proofs.selection.strongest_grid.Given as goal

abbrev pub invariant-loop-m : goal.invariant-loop-m
invariant-loop-m l = IsLeastGreatest (grid_energy l.x) 0 l.m l.best
