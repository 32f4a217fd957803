use Rattle.std.proofs.Common.{◌≡◌, ◌-◌, arith, rules, ◌∙◌, pos, FitsSigned, w16}
use Rattle.std.proofs.lemmas.Int.{to_z-of_z}
use Rattle.std.proofs.lemmas.List.{length-set, get_or-set_other}
use Rattle.trau_num.specs.Num.{entry}
use Rattle.fr_lpc.specs.Reflection.{p_after, k_after}
use Rattle.fr_lpc.proofs.Recursion.{stopped, found, finished}
use Rattle.fr_lpc.proofs.reflection.recursion.Goals as goal

pub returns-then-p-abs16 : goal.returns-then-p-abs16
returns-then-p-abs16 c =
    let p0 : FitsSigned w16 (entry c.loop-n.p 0) = search rules in
    let p1 : FitsSigned w16 (entry c.loop-n.p 1) = search rules in
    let a : FitsSigned w16 c.abs16.result = search rules in
    let v = simp to_z-of_z at c.abs16.ensures.value in
    let below = simp to_z-of_z at c.if-p-abs16.true in
    stopped c.loop-n.rs c.loop-n.p c.loop-n.k _ c.loop-n.n c.loop-n.invariant.count c.loop-n-test.true c.loop-n.invariant.zeros
    (rw v at below) c.loop-n.invariant.whole

pub loop-n-preserved : goal.loop-n-preserved
loop-n-preserved c =
    let p0 : FitsSigned w16 (entry c.loop-n.p 0) = search rules in
    let p1 : FitsSigned w16 (entry c.loop-n.p 1) = search rules in
    let a : FitsSigned w16 c.abs16.result = search rules in
    let r : FitsSigned w16 c.coefficient-r.result = search rules in
    let v = simp to_z-of_z at c.abs16.ensures.value in
    let above = simp to_z-of_z at c.if-p-abs16.false in
    let e = simp to_z-of_z at c.coefficient-r.ensures.value in
    let count = c.loop-n.invariant.count in
    let p : c.step.new.p ≡ p_after (7 - c.loop-n.n) c.coefficient-r.result c.loop-n.p c.loop-n.k = simp to_z-of_z at c.step.ensures.p in
    let k : c.step.new.k ≡ k_after (7 - c.loop-n.n) c.coefficient-r.result c.loop-n.p c.loop-n.k = simp to_z-of_z at c.step.ensures.k in
    simp to_z-of_z (record {
      count = length-set c.loop-n.rs c.loop-n.n c.coefficient-r.result ∙ count;
      zeros = λ j b. get_or-set_other c.loop-n.rs c.loop-n.n j c.coefficient-r.result (pos 0) (omega arith) ∙ c.loop-n.invariant.zeros j (omega arith);
      whole = rw (p, k) (found c.loop-n.rs c.loop-n.p c.loop-n.k _ c.coefficient-r.result c.loop-n.n c.loop-n.invariant.count c.loop-n-test.true
          (rw v at above) e c.loop-n.invariant.whole);
    })

pub returns : goal.returns
returns c = finished c.loop-n.rs c.loop-n.p c.loop-n.k _ c.loop-n.n c.loop-n.invariant.count c.loop-n-test.false c.loop-n.invariant.whole
