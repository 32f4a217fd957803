use Rattle.std.proofs.Common.{◌≡◌, ℕ, ◌<◌, ap, refl, rules, length, List, ℤ, get_or, pos, FitsSigned, w16}
use Rattle.std.proofs.lemmas.Int.{to_z-of_z}
use Rattle.trau_num.specs.Num.{entry}
use Rattle.fr_short.specs.Reflection.{coefficients_of, coefficients_at, part_of}
use Rattle.fr_short.specs.AnalysisSection.{coefficient_at}
use Rattle.fr_short.proofs.Parts.{part_within}
use Rattle.fr_short.proofs.BySection.{sectioned_none, sectioned_next, sectioned_all}
use Rattle.fr_short.proofs.analysis.analyse.Goals as goal

eight : (old new : List ℤ) (k : ℕ) → length (coefficients_at old new k) ≡ 8
unfolding coefficients_of
eight old new k = refl

pub loop-i-init : goal.loop-i-init
loop-i-init c = sectioned_none _ _ _ c.told-us c.told-s

pub loop-i-preserved : goal.loop-i-preserved
loop-i-preserved c =
    let fp : FitsSigned w16 c.pass.result = search rules in
    let fu : FitsSigned w16 (get_or c.loop-i.us c.loop-i.i (pos 0)) = search rules in
    let i = c.loop-i.i in
    let parts = c.parts-parts.result in
    let r : (k : ℕ) → k < 160 → coefficient_at parts i k ≡ entry (coefficients_at c.args.old.now c.args.new.now k) i =
    λ k l. ap (λ rs. entry rs i) (c.parts-parts.ensures.value (part_of k) (part_within k)) in
    let ds = simp to_z-of_z at c.pass.ensures.ds in
    let savs = simp to_z-of_z at c.pass.ensures.savs in
    simp to_z-of_z (sectioned_next _ (coefficient_at parts i) _ _ c.loop-i.us c.loop-i.s c.loop-i.savs c.pass.new.ds c.pass.new.savs i
    (get_or c.loop-i.us i (pos 0)) c.pass.result
    c.loop-i-test.true (eight _ _) c.pass.array_long c.pass.array_long2 c.loop-i.invariant refl r ds savs c.pass.ensures.last)

pub returns-clause-residual : goal.returns-clause-residual
returns-clause-residual c = (sectioned_all _ _ _ _ _ _ _ c.loop-i-test.false (eight _ _) c.loop-i.invariant).0

pub returns-clause-sections : goal.returns-clause-sections
returns-clause-sections c = (sectioned_all _ _ _ _ _ _ _ c.loop-i-test.false (eight _ _) c.loop-i.invariant).1
