use Rattle.std.proofs.Common.{rules, arith, ap, ◌≤◌, ◌+ℤ◌, ◌∙◌, pos, unsigned_abs, FitsSigned, w16, w32}
use Rattle.std.proofs.lemmas.Int.{to_z-of_z, ints}
use Rattle.trau_num.specs.Num.{clamp16, floor_shr, mult_r_of}
use Rattle.trau_num.proofs.Fitting.{shifted_fits}
use Rattle.trau_num.proofs.words.mult_r.Goals as goal

pub overflow_add-full_product : goal.overflow_add-full_product
overflow_add-full_product c =
    let f : FitsSigned w32 c.full_product.result = search rules in
    let b : unsigned_abs c.full_product.result ≤ 1073741824 = c.full_product.ensures.bound in
    simp to_z-of_z (omega (arith, ints))

pub returns : goal.returns
unfolding mult_r_of
returns c =
    let fa = c.ranges.a in
    let fb = c.ranges.b in
    let fr : FitsSigned w16 c.clamp.result = search rules in
    let f : FitsSigned w32 c.full_product.result = search rules in
    let v = simp to_z-of_z at c.full_product.ensures.value in
    let b : unsigned_abs c.full_product.result ≤ 1073741824 = c.full_product.ensures.bound in
    let s : FitsSigned w32 (c.full_product.result +ℤ pos 16384) = omega (arith, ints) in
    let fs = shifted_fits w32 (c.full_product.result +ℤ pos 16384) 15 s in
    let e = simp to_z-of_z at c.clamp.ensures in
    simp to_z-of_z (e ∙ ap (λ z. clamp16 (floor_shr (z +ℤ pos 16384) 15)) v)
