use Rattle.std.proofs.Common.{arith, ap, ◌≤◌, ◌*◌, ◌+◌, ◌+ℤ◌, unsigned_abs, FitsSigned, w32}
use Rattle.std.proofs.lemmas.Int.{to_z-of_z, ints}
use Rattle.fr_rpe.proofs.weighting.plus_tap.Goals as goal

pub overflow_add-result : goal.overflow_add-result
overflow_add-result c =
    let fs = c.ranges.sum in
    let fw = c.ranges.weight in
    let ft : FitsSigned w32 c.tap.result = record { sfits = c.tap.type_inv } in
    let b = simp to_z-of_z at c.tap.ensures.bound in
    let room = c.requires.room in
    simp to_z-of_z (omega (arith, ints))

pub returns-clause-value : goal.returns-clause-value
returns-clause-value c =
    let fs = c.ranges.sum in
    let fw = c.ranges.weight in
    let fv = c.ranges.value in
    let ft : FitsSigned w32 c.tap.result = record { sfits = c.tap.type_inv } in
    let e = simp to_z-of_z at c.tap.ensures.value in
    let b = simp to_z-of_z at c.tap.ensures.bound in
    let room = c.requires.room in
    let fits : FitsSigned w32 (c.args.sum +ℤ c.tap.result) = omega (arith, ints) in
    simp to_z-of_z (ap (λ z. c.args.sum +ℤ z) e)

pub returns-clause-bound : goal.returns-clause-bound
returns-clause-bound c =
    let fs = c.ranges.sum in
    let fw = c.ranges.weight in
    let ft : FitsSigned w32 c.tap.result = record { sfits = c.tap.type_inv } in
    let b = simp to_z-of_z at c.tap.ensures.bound in
    let room = c.requires.room in
    let fits : FitsSigned w32 (c.args.sum +ℤ c.tap.result) = omega (arith, ints) in
    let sum : unsigned_abs (c.args.sum +ℤ c.tap.result) ≤ unsigned_abs c.args.sum + unsigned_abs c.args.weight * 32768 = omega (arith, ints) in
    simp to_z-of_z sum
