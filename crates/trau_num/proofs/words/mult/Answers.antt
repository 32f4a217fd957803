use Rattle.std.proofs.Common.{◌∙◌, ap, FitsSigned, w16, w32}
use Rattle.std.proofs.lemmas.Int.{to_z-of_z}
use Rattle.trau_num.specs.Num.{clamp16, floor_shr, mult_of}
use Rattle.trau_num.proofs.Fitting.{shifted_fits}
use Rattle.trau_num.proofs.words.mult.Goals as goal

pub returns : goal.returns
unfolding mult_of
returns c =
    let product : FitsSigned w32 c.full_product.result = record { sfits = c.full_product.type_inv } in
    let shifted = shifted_fits w32 c.full_product.result 15 product in
    let value = rw (to_z-of_z w16 c.args.a c.ranges.a, to_z-of_z w16 c.args.b c.ranges.b) at c.full_product.ensures.value in
    let clamped = rw (to_z-of_z w32 _ product, to_z-of_z w32 _ shifted) at c.clamp.ensures in
    to_z-of_z w16 _ (record { sfits = c.clamp.type_inv }) ∙ clamped ∙ ap (λ z. clamp16 (floor_shr z 15)) value
