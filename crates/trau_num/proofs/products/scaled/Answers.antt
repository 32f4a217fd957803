use Rattle.std.proofs.Common.{arith, ap, sym, ◌≤◌, ◌+ℤ◌, ◌∙◌, pos, unsigned_abs, FitsSigned, w16, w32}
use Rattle.std.proofs.lemmas.Int.{to_z-of_z, ints}
use Rattle.trau_num.specs.Num.{clamp16, floor_shr, mult_r_of}
use Rattle.trau_num.proofs.Fitting.{rounded_fits, shifted_fits, word_stays}
use Rattle.trau_num.proofs.products.scaled.Goals as goal

pub overflow_add-result : goal.overflow_add-result
overflow_add-result c =
    let f : FitsSigned w32 c.product.result = record { sfits = c.product.type_inv } in
    let b : unsigned_abs c.product.result ≤ 1073709056 = c.product.ensures.bound in
    simp to_z-of_z (omega (arith, ints))

pub returns-clause-value : goal.returns-clause-value
unfolding mult_r_of
returns-clause-value c =
    let ff = c.ranges.factor in
    let fv = c.ranges.value in
    let f : FitsSigned w32 c.product.result = record { sfits = c.product.type_inv } in
    let v = simp to_z-of_z at c.product.ensures.value in
    let b : unsigned_abs c.product.result ≤ 1073709056 = c.product.ensures.bound in
    let sum : FitsSigned w32 (c.product.result +ℤ pos 16384) = omega (arith, ints) in
    let fits = shifted_fits w32 (c.product.result +ℤ pos 16384) 15 sum in
    let word = word_stays (floor_shr (c.product.result +ℤ pos 16384) 15) (rounded_fits c.product.result b) in
    simp to_z-of_z (sym word ∙ ap (λ z. clamp16 (floor_shr (z +ℤ pos 16384) 15)) v)

pub returns-clause-bound : goal.returns-clause-bound
returns-clause-bound c =
    let f : FitsSigned w32 c.product.result = record { sfits = c.product.type_inv } in
    let b : unsigned_abs c.product.result ≤ 1073709056 = c.product.ensures.bound in
    let sum : FitsSigned w32 (c.product.result +ℤ pos 16384) = omega (arith, ints) in
    let fits = shifted_fits w32 (c.product.result +ℤ pos 16384) 15 sum in
    let word : FitsSigned w16 (floor_shr (c.product.result +ℤ pos 16384) 15) = rounded_fits c.product.result b in
    let small : unsigned_abs (floor_shr (c.product.result +ℤ pos 16384) 15) ≤ 32768 = omega (arith, ints) in
    simp to_z-of_z small
