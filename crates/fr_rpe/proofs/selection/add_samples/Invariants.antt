use Rattle.fr_rpe.proofs.Energies.{Growing}
use Rattle.fr_rpe.proofs.selection.add_samples.Given as goal

abbrev pub invariant-loop-m : goal.invariant-loop-m
invariant-loop-m l = Growing l.i l.m l.x l.sums
