use Rattle.std.proofs.Common.{◌∙◌, ◌+ℤ◌, arith, FitsSigned, w16, w32}
use Rattle.std.proofs.lemmas.Int.{ints, to_z-of_z}
use Rattle.trau_num.specs.Num.{add_of, clamp16}
use Rattle.fr_rpe.proofs.decode.sum.Goals as goal

pub returns : goal.returns
unfolding add_of
returns c =
    let bound = c.scaled.ensures.bound in
    let factor = c.ranges.factor in
    let level = c.ranges.level in
    let rounding = c.ranges.rounding in
    let result : FitsSigned w16 c.clamp.result = record { sfits = c.clamp.type_inv } in
    let product : FitsSigned w32 c.scaled.result = record { sfits = c.scaled.type_inv } in
    let wide : FitsSigned w32 c.from.result = record { sfits = c.from.type_inv } in
    let from = simp to_z-of_z at c.from.ensures in
    let value = simp to_z-of_z at c.scaled.ensures.value in
    let sum : FitsSigned w32 (c.scaled.result +ℤ c.from.result) = omega (arith, ints) in
    let clamped = simp to_z-of_z at c.clamp.ensures in
    rw (to_z-of_z w16 _ result) (clamped ∙ (λ i. clamp16 (value i +ℤ from i)))
