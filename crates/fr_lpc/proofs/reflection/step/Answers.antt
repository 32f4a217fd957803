use Rattle.std.proofs.Common.{◌≡◌, ◌+◌, ◌∙◌, refl, arith, rules, FitsSigned, w16}
use Rattle.std.proofs.lemmas.Int.{to_z-of_z}
use Rattle.trau_num.specs.Num.{add_of, mult_r_of, entry}
use Rattle.fr_lpc.specs.Reflection.{p_after, k_after}
use Rattle.fr_lpc.proofs.Over.{over_first, over_same, over_next, over_end, next_p-within, next_k-within, next_p-past, next_k-past}
use Rattle.fr_lpc.proofs.reflection.step.Goals as goal

pub loop-m-init : goal.loop-m-init
loop-m-init c =
    let r = c.ranges.r in
    let here : FitsSigned w16 (entry c.args.p.now 0) = search rules in
    let above : FitsSigned w16 (entry c.args.p.now 1) = search rules in
    let first : FitsSigned w16 c.plus.result = record { sfits = c.plus.type_inv } in
    let sum = simp to_z-of_z at c.plus.ensures in
    simp to_z-of_z (record { ps = over_first _ c.args.p.now _ c.told-p sum; ks = over_same _ c.args.k.now c.told-k refl })

pub loop-m-preserved : goal.loop-m-preserved
loop-m-preserved c =
    let r = c.ranges.r in
    let above : FitsSigned w16 (entry c.loop-m.p (c.loop-m.m + 1)) = search rules in
    let beside : FitsSigned w16 (entry c.loop-m.k c.loop-m.m) = search rules in
    let first : FitsSigned w16 c.plus-in-loop-m.result = search rules in
    let second : FitsSigned w16 c.plus-in-loop-m-2.result = search rules in
    let a = simp to_z-of_z at c.plus-in-loop-m.ensures in
    let b = simp to_z-of_z at c.plus-in-loop-m-2.ensures in
    let kp = c.loop-m.invariant.ps.kept (c.loop-m.m + 1) (omega arith) in
    let kk = c.loop-m.invariant.ks.kept c.loop-m.m (omega arith) in
    let inv = simp to_z-of_z at c.loop-m.invariant in
    let p = c.args.p.now in
    let k = c.args.k.now in
    let m = c.loop-m.m in
    let new_p : c.plus-in-loop-m.result ≡ add_of (entry p (m + 1)) (mult_r_of c.args.r (entry k m)) = cc in
    let new_k : c.plus-in-loop-m-2.result ≡ add_of (entry k m) (mult_r_of c.args.r (entry p (m + 1))) = cc in
    simp to_z-of_z (record {
      ps = over_next _ _ c.loop-m.p m _ (omega arith) inv.ps (new_p ∙ next_p-within p k c.args.r c.args.left m (omega arith) (omega arith));
      ks = over_next _ _ c.loop-m.k m _ (omega arith) inv.ks (new_k ∙ next_k-within p k c.args.r c.args.left m (omega arith) (omega arith));
    })

pub returns-clause-p : goal.returns-clause-p
unfolding p_after
returns-clause-p c =
    let r = c.ranges.r in
    let inv = simp to_z-of_z at c.loop-m.invariant in
    over_end _ _ c.loop-m.p c.loop-m.m inv.ps (λ j g. next_p-past c.args.p.now c.args.k.now c.args.r c.args.left c.loop-m.m j c.loop-m-test.false g)

pub returns-clause-k : goal.returns-clause-k
unfolding k_after
returns-clause-k c =
    let r = c.ranges.r in
    let inv = simp to_z-of_z at c.loop-m.invariant in
    over_end _ _ c.loop-m.k c.loop-m.m inv.ks (λ j g. next_k-past c.args.p.now c.args.k.now c.args.r c.args.left c.loop-m.m j c.loop-m-test.false g)
