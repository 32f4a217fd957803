use Rattle.std.proofs.Common.{◌≡◌, ◌∙◌, ◌+ℤ◌, arith, w16, w32, to_z, of_z}
use Rattle.std.proofs.lemmas.Int.{to_z-of_z, ints}
use Rattle.trau_num.specs.Num.{clamp16}
use Rattle.fr_pre.specs.Offsets.{without_offset}
use Rattle.fr_pre.proofs.compensation.without_offset.Goals as goal

pub returns : goal.returns
unfolding without_offset
returns c =
    let so = c.ranges.so in
    let small = c.rounded.ensures.within in
    let from : c.from.result ≡ c.args.so = c.from.ensures ∙ to_z-of_z w16 c.args.so so in
    let value = rw (to_z-of_z w32 c.args.offset c.ranges.offset) at c.rounded.ensures.value in
    let exact : to_z w32 (of_z w32 (to_z w32 (of_z w32 c.from.result) +ℤ to_z w32 (of_z w32 c.rounded.result))) ≡ c.args.so +ℤ c.rounded.result =
    omega (arith, ints) in
    let clamped = rw exact at c.clamp.ensures in
    to_z-of_z w16 _ (record { sfits = c.clamp.type_inv }) ∙ clamped ∙ (λ i. clamp16 (c.args.so +ℤ value i))
