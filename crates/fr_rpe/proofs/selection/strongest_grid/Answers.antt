use Rattle.std.proofs.Common.{◌≡◌, pos, get_or, arith, subst, rules, FitsSigned, w32}
use Rattle.std.proofs.lemmas.Int.{ints, to_z-of_z}
use Rattle.trau_num.proofs.Greatest.{IsLeastGreatest, first_alone, next_greater, next_not_greater}
use Rattle.fr_rpe.specs.Selection.{grid_energy}
use Rattle.fr_rpe.proofs.Greatest.{grid_is, strongest}
use Rattle.fr_rpe.proofs.selection.strongest_grid.Goals.{then-energies-best, else-energies-best}
use Rattle.fr_rpe.proofs.selection.strongest_grid.Goals as goal

all_four : (c : goal.After-loop-m) → IsLeastGreatest (grid_energy c.args.x.now) 0 4 c.loop-m.best
all_four c = let e : c.loop-m.m ≡ 4 = omega arith in subst (λ n. IsLeastGreatest (grid_energy c.args.x.now) 0 n c.loop-m.best) e c.loop-m.invariant

pub returns-clause-value : goal.returns-clause-value
returns-clause-value c = grid_is c.args.x.now c.loop-m.best (all_four c)

pub returns-clause-strongest : goal.returns-clause-strongest
returns-clause-strongest c = strongest c.args.x.now c.loop-m.best (all_four c)

pub loop-m-init : goal.loop-m-init
loop-m-init c = first_alone (grid_energy c.args.x.now) 0

pub loop-m-preserved : goal.loop-m-preserved
loop-m-preserved c =
    let f = grid_energy c.args.x.now in
    let m = c.loop-m.m in
    let best = c.loop-m.best in
    let within = c.loop-m.invariant.below in
    let old = c.energies-energies.ensures.each best (omega arith) in
    let new = c.energies-energies.ensures.each m (omega arith) in
    let old_fits : FitsSigned w32 (get_or c.energies-energies.result best (pos 0)) = search rules in
    let new_fits : FitsSigned w32 (get_or c.energies-energies.result m (pos 0)) = search rules in
    elim c.if-energies-best.branch [
      | then-energies-best w ↦
          let test = rw (to_z-of_z w32 _ old_fits, to_z-of_z w32 _ new_fits, old, new) at w.if-energies-best.true in
          rw w.best-is (next_greater f 0 m best m (omega arith) c.loop-m.invariant (omega (arith, ints)))
      | else-energies-best w ↦
          let test = rw (to_z-of_z w32 _ old_fits, to_z-of_z w32 _ new_fits, old, new) at w.if-energies-best.false in
          rw w.best-is (next_not_greater f 0 m best m (omega arith) c.loop-m.invariant (omega (arith, ints)))
    ]
