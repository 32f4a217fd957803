use Rattle.std.proofs.Common.{ℤ, pos, List, replicate, arith}
use Rattle.std.proofs.lemmas.Int.{ints}
use Rattle.std.proofs.lemmas.List.{get_or-replicate}
use Rattle.fr_rpe.specs.Selection.{energy_up_to, AreEnergies}
use Rattle.fr_rpe.proofs.selection.energies.Goals as goal

-- no sample is there yet
none : (x : List ℤ) → AreEnergies 0 x (replicate 4 (pos 0))
unfolding energy_up_to
none x = record {
  each = λ m l. get_or-replicate 4 m (pos 0) (pos 0) l;
  at_least = λ m l. rw (get_or-replicate 4 m (pos 0) (pos 0) l) (omega (arith, ints));
  at_most = λ m l. rw (get_or-replicate 4 m (pos 0) (pos 0) l) (omega (arith, ints));
}

pub loop-i-init : goal.loop-i-init
loop-i-init c = none c.args.x.now
