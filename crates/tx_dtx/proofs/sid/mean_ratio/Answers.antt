use Rattle.std.proofs.Common.{FitsSigned, ◌+ℤ◌, w16, w32, rules, ap, ◌∙◌}
use Rattle.std.proofs.lemmas.Int.{to_z-of_z}
use Rattle.trau_num.specs.Num.{floor_shr}
use Rattle.tx_dtx.proofs.Means.{two_pairs}
use Rattle.tx_dtx.proofs.sid.mean_ratio.Goals as goal

pub returns : goal.returns
returns c =
    let fa : FitsSigned w16 c.args.a = c.ranges.a in
    let fb : FitsSigned w16 c.args.b = c.ranges.b in
    let fc : FitsSigned w16 c.args.c = c.ranges.c in
    let fd : FitsSigned w16 c.args.d = c.ranges.d in
    let fx : FitsSigned w32 c.sum.result = search rules in
    let fy : FitsSigned w32 c.sum-2.result = search rules in
    let f : FitsSigned w32 (c.sum.result +ℤ c.sum-2.result) = search rules in
    let fq : FitsSigned w16 c.quarter.result = search rules in
    let x = simp to_z-of_z at c.sum.ensures.value in
    let y = simp to_z-of_z at c.sum-2.ensures.value in
    let q = simp to_z-of_z at c.quarter.ensures in
    to_z-of_z w16 _ fq ∙ q ∙ ap (λ z. floor_shr z 2) (two_pairs c.sum.result c.sum-2.result c.args.a c.args.b c.args.c c.args.d x y)
