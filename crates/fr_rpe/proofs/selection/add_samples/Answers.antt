use Rattle.std.proofs.Common.{◌≡◌, ℤ, ◌+◌, ◌*◌, ◌^◌, pos, ◌+ℤ◌, ◌≤ℤ◌, get_or, arith, rules, FitsSigned, w16, w32, to_z, of_z}
use Rattle.std.proofs.lemmas.Int.{to_z-of_z, ints}
use Rattle.fr_rpe.proofs.Energies.{grow_start, grow_next, grow_end}
use Rattle.fr_rpe.proofs.selection.add_samples.Goals as goal

one_sum : (a b : ℤ) → pos 0 ≤ℤ a → pos 0 ≤ℤ b → a ≤ℤ pos (2 ^ 27 * 12) → b ≤ℤ pos (2 ^ 27) →
    to_z w32 (of_z w32 (to_z w32 (of_z w32 a) +ℤ to_z w32 (of_z w32 b))) ≡ a +ℤ b
one_sum a b l m h k = omega (arith, ints)

pub loop-m-init : goal.loop-m-init
loop-m-init c = grow_start c.args.i c.args.x.now _ (search rules) c.requires.so_far

pub loop-m-preserved : goal.loop-m-preserved
loop-m-preserved c =
    let x : FitsSigned w16 (get_or c.args.x.now (c.loop-m.m + 3 * c.args.i) (pos 0)) = search rules in
    let e = simp to_z-of_z at c.sample_energy.ensures.value in
    let low = c.sample_energy.ensures.not_negative in
    let high = c.sample_energy.ensures.at_most in
    let bottom = c.loop-m.invariant.at_least c.loop-m.m c.loop-m-test.true in
    let top = c.loop-m.invariant.rest_at_most c.loop-m.m (omega arith) c.loop-m-test.true in
    let within : get_or c.loop-m.sums c.loop-m.m (pos 0) ≤ℤ pos (2 ^ 27 * 12) = omega (arith, ints) in
    grow_next c.args.i c.loop-m.m c.args.x.now c.loop-m.sums c.sample_energy.result _ c.loop-m-test.true c.loop-m.invariant e low high
    (one_sum (get_or c.loop-m.sums c.loop-m.m (pos 0)) c.sample_energy.result bottom low within high)

pub returns : goal.returns
returns c = grow_end c.args.i c.loop-m.m c.args.x.now _ (omega arith) c.loop-m.invariant
