use Rattle.std.proofs.Common.{pos, rules, ◌∙◌, FitsSigned, w16, ap, ◌≤◌, unsigned_abs, arith}
use Rattle.std.proofs.lemmas.Int.{to_z-of_z}
use Rattle.trau_num.proofs.Fill.{fill_next, fill_all, each_next}
use Rattle.trau_num.specs.Num.{entry}
use Rattle.fr_short.specs.Reflection.{reflection_of, coefficients_of}
use Rattle.fr_short.proofs.reflection.coefficients.Goals as goal

pub loop-i-preserved : goal.loop-i-preserved
loop-i-preserved c =
    let r : FitsSigned w16 c.reflection.result = search rules in
    let b : FitsSigned w16 c.interpolate.result = search rules in
    let o : FitsSigned w16 (entry c.args.old.now c.loop-i.i) = search rules in
    let n : FitsSigned w16 (entry c.args.new.now c.loop-i.i) = search rules in
    let e = simp to_z-of_z at c.reflection.ensures.value in
    let f = simp to_z-of_z at c.interpolate.ensures in
    let count = c.loop-i.invariant.filled.count in
    simp to_z-of_z (record {
      filled = fill_next (pos 0) _ c.loop-i.rs 8 c.loop-i.i c.reflection.result c.loop-i-test.true c.loop-i.invariant.filled (e ∙ ap reflection_of f);
      factors = each_next (λ k r. unsigned_abs r ≤ 32767) (pos 0) c.loop-i.rs c.loop-i.i c.reflection.result
          (omega arith) c.reflection.ensures.bound c.loop-i.invariant.factors;
    })

pub returns-clause-value : goal.returns-clause-value
unfolding coefficients_of
returns-clause-value c = fill_all (pos 0) _ c.loop-i.rs 8 c.loop-i.i c.loop-i-test.false c.loop-i.invariant.filled

pub returns-clause-factors : goal.returns-clause-factors
returns-clause-factors c = λ k l. c.loop-i.invariant.factors k (omega arith)
