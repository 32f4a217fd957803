use Rattle.std.proofs.Common.{rules, arith, get_or, pos, FitsSigned, w16}
use Rattle.std.proofs.lemmas.Int.{to_z-of_z}
use Rattle.fr_pre.proofs.Shifted.{downscaling_next, downscaling_end}
use Rattle.fr_pre.proofs.passes.downscale.Goals as goal

pub loop-k-preserved : goal.loop-k-preserved
loop-k-preserved c =
    let fb : FitsSigned w16 c.args.before = c.ranges.before in
    let fx : FitsSigned w16 (get_or c.args.x.now c.loop-k.k (pos 0)) = search rules in
    let fy : FitsSigned w16 c.downscaled.result = search rules in
    let e = simp to_z-of_z at c.downscaled.ensures.value in
    simp to_z-of_z (downscaling_next c.args.before c.args.x.now c.loop-k.so c.loop-k.k c.downscaled.result (omega arith)
    (simp to_z-of_z at c.loop-k.invariant) e c.downscaled.ensures.within)

pub returns : goal.returns
returns c =
    let fb : FitsSigned w16 c.args.before = c.ranges.before in
    downscaling_end c.args.before c.args.x.now c.loop-k.so c.loop-k.k (omega arith) c.requires (simp to_z-of_z at c.loop-k.invariant)
