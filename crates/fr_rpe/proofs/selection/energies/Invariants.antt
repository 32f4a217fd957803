use Rattle.fr_rpe.specs.Selection.{AreEnergies}
use Rattle.fr_rpe.proofs.selection.energies.Given as goal

abbrev pub invariant-loop-i : goal.invariant-loop-i
invariant-loop-i l = AreEnergies l.i l.x l.sums
