use Rattle.std.proofs.Common.{◌≡◌, ◌≤◌, ℤ, List, [], get_or, pos, sym, ap, arith, rules, FitsSigned, w16, to_z}
use Rattle.std.proofs.lemmas.Int.{to_z-of_z}
use Rattle.trau_num.specs.Num.{entry}
use Rattle.fr_short.specs.AnalysisSection.{coefficient_at}
use Rattle.fr_short.proofs.Parts.{rest_is_last}
use Rattle.fr_short.proofs.Passes.{passing_next}
use Rattle.fr_short.proofs.analysis.pass.Goals as goal

pub loop-k-preserved : goal.loop-k-preserved
loop-k-preserved c =
    let ff = c.ranges.first in
    let k = c.loop-k.k in
    let fx : FitsSigned w16 c.outputs-d.result.0 = search rules in
    let fy : FitsSigned w16 c.outputs-d.result.1 = search rules in
    let fd : FitsSigned w16 (get_or c.loop-k.ds k (pos 0)) = search rules in
    let fs : FitsSigned w16 (get_or c.loop-k.savs k (pos 0)) = search rules in
    let fr : FitsSigned w16 (get_or c.spread-rs.result k (pos 0)) = search rules in
    simp to_z-of_z (passing_next (coefficient_at c.args.parts.now c.args.i) c.args.first c.args.ds.now c.args.savs.now c.loop-k.ds c.loop-k.savs
    (get_or c.spread-rs.result k (pos 0)) (to_z w16 c.loop-k.u-bits) k c.outputs-d.result.0 c.outputs-d.result.1 (omega arith)
    (c.spread-rs.ensures k c.loop-k-test.true)
    (simp to_z-of_z at c.loop-k.invariant) (simp to_z-of_z at c.outputs-d.ensures.d) (simp to_z-of_z at c.outputs-d.ensures.sav))

pub loop-k-2-preserved : goal.loop-k-2-preserved
loop-k-2-preserved c =
    let ff = c.ranges.first in
    let k = c.loop-k-2.k in
    let last : List ℤ = get_or c.args.parts.now 3 [] in
    let from : 40 ≤ k = omega arith in
    let r : get_or last c.args.i (pos 0) ≡ coefficient_at c.args.parts.now c.args.i k =
    ap (λ p. entry (get_or c.args.parts.now p []) c.args.i) (sym (rest_is_last k from)) in
    let fx : FitsSigned w16 c.outputs-d-in-loop-k-2.result.0 = search rules in
    let fy : FitsSigned w16 c.outputs-d-in-loop-k-2.result.1 = search rules in
    let fd : FitsSigned w16 (get_or c.loop-k-2.ds k (pos 0)) = search rules in
    let fs : FitsSigned w16 (get_or c.loop-k-2.savs k (pos 0)) = search rules in
    let fr : FitsSigned w16 (get_or last c.args.i (pos 0)) = search rules in
    simp to_z-of_z (passing_next (coefficient_at c.args.parts.now c.args.i) c.args.first c.args.ds.now c.args.savs.now c.loop-k-2.ds c.loop-k-2.savs
    (get_or last c.args.i (pos 0)) (to_z w16 c.loop-k-2.u-bits) k c.outputs-d-in-loop-k-2.result.0 c.outputs-d-in-loop-k-2.result.1 (omega arith) r
    (simp to_z-of_z at c.loop-k-2.invariant) (simp to_z-of_z at c.outputs-d-in-loop-k-2.ensures.d) (simp to_z-of_z at c.outputs-d-in-loop-k-2.ensures.sav))
