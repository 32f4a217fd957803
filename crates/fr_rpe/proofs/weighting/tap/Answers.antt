use Rattle.std.proofs.Common.{ℤ, ◌*◌, ◌≤◌, ◌*ℤ◌, ◌≡◌, unsigned_abs, arith, rules, mul-le-mul, FitsSigned, w16, w32}
use Rattle.std.proofs.lemmas.Int.{to_z-of_z, ints, unsigned_abs-mul}
use Rattle.fr_rpe.proofs.weighting.tap.Goals as goal

bounded : (w v r : ℤ) → FitsSigned w16 v → r ≡ w *ℤ v → unsigned_abs r ≤ unsigned_abs w * 32768
bounded w v r f e =
    let b : unsigned_abs v ≤ 32768 = omega (arith, ints) in
    let a : unsigned_abs w ≤ unsigned_abs w = omega arith in
    rw (e, unsigned_abs-mul) (mul-le-mul a b)

pub returns-clause-bound : goal.returns-clause-bound
returns-clause-bound c =
    let w = c.ranges.weight in
    let v = c.ranges.value in
    let r : FitsSigned w32 c.product.result = search rules in
    let e = simp to_z-of_z at c.product.ensures.value in
    simp to_z-of_z (bounded c.args.weight c.args.value c.product.result v e)
