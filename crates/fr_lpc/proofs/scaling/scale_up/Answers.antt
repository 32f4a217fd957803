use Rattle.std.proofs.Common.{ℤ, arith, rules, refl, ◌∙◌, FitsSigned, w16}
use Rattle.std.proofs.lemmas.Bool.{ne_eqb}
use Rattle.std.proofs.lemmas.Int.{to_z-of_z}
use Rattle.trau_num.specs.Num.{shl_of, entry}
use Rattle.fr_lpc.specs.Scaling.{scaled_up}
use Rattle.trau_num.proofs.Mapped.{over_more, over_all}
use Rattle.fr_lpc.proofs.scaling.scale_up.Goals as goal

pub loop-x-preserved : goal.loop-x-preserved
loop-x-preserved c =
    let x : FitsSigned w16 (entry c.loop-x.s c.loop-x.x-index) = search rules in
    let r : FitsSigned w16 c.shl16.result = search rules in
    let e = simp to_z-of_z at c.shl16.ensures in
    over_more (λ (x : ℤ). shl_of x c.args.scaling) c.args.s.now c.loop-x.s c.loop-x.x-index _ (omega (arith, c.told-s)) c.loop-x.invariant
    (to_z-of_z w16 _ r ∙ e)

pub returns : goal.returns
unfolding scaled_up
returns c =
    rw (ne_eqb c.args.scaling 0 c.if-scaling-eq0.false)
    (over_all (λ (x : ℤ). shl_of x c.args.scaling) c.args.s.now c.loop-x.s c.loop-x.x-index (omega (arith, c.told-s)) c.loop-x.invariant)

pub returns-then-scaling-eq0 : goal.returns-then-scaling-eq0
unfolding scaled_up
returns-then-scaling-eq0 c = rw c.if-scaling-eq0.true refl
