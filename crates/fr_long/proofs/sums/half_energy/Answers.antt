use Rattle.std.proofs.Common.{mul-le-mul, FitsSigned, w16}
use Rattle.std.proofs.lemmas.Int.{to_z-of_z}
use Rattle.trau_num.specs.Num.{floor_shr}
use Rattle.fr_long.proofs.Blocks.{small_square, small_word}
use Rattle.fr_long.proofs.sums.half_energy.Goals as goal

pub small_product-requires : goal.small_product-requires
small_product-requires c =
    let x : FitsSigned w16 c.args.x = c.ranges.x in
    let small = small_square c.args.x x in
    let f : FitsSigned w16 (floor_shr c.args.x 3) = small_word (floor_shr c.args.x 3) small in
    simp to_z-of_z (mul-le-mul small small)
