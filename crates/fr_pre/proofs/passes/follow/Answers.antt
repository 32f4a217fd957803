use Rattle.std.proofs.Common.{refl, sym, subst, rules, arith, get_or, set, ◌+◌, pos, to_z, FitsSigned, w16, w32, w64}
use Rattle.std.proofs.lemmas.Int.{to_z-of_z}
use Rattle.fr_pre.proofs.Chain.{Chain, chain_next}
use Rattle.fr_pre.proofs.passes.follow.Goals as goal

pub loop-k-preserved : goal.loop-k-preserved
loop-k-preserved c =
    let fb : FitsSigned w64 c.args.before = c.ranges.before in
    let fs : FitsSigned w16 (get_or c.args.so.now c.loop-k.k (pos 0)) = search rules in
    let fy : FitsSigned w64 c.next_offset-offset.result = search rules in
    let fn : FitsSigned w32 c.narrow_offset.result = search rules in
    let y = simp to_z-of_z at c.next_offset-offset.ensures.value in
    let n = simp to_z-of_z at c.narrow_offset.ensures in
    simp to_z-of_z (subst (λ v. Chain c.args.before c.args.so.now (set c.loop-k.offsets c.loop-k.k v) c.next_offset-offset.result (c.loop-k.k + 1)) (sym n)
    (chain_next c.args.before c.args.so.now c.loop-k.offsets (to_z w64 c.loop-k.offset-bits) c.loop-k.k (get_or c.args.so.now c.loop-k.k (pos 0))
    c.next_offset-offset.result (omega arith) (simp to_z-of_z at c.loop-k.invariant) refl y c.next_offset-offset.ensures.within))
