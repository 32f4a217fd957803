use Rattle.std.proofs.Common.{arith, rules, refl, ◌∙◌, FitsSigned, w16}
use Rattle.std.proofs.lemmas.Bool.{ne_eqb}
use Rattle.std.proofs.lemmas.Int.{to_z-of_z}
use Rattle.trau_num.specs.Num.{entry}
use Rattle.fr_lpc.specs.Scaling.{scaled_sample, scaled_down}
use Rattle.trau_num.proofs.Mapped.{over_more, over_all}
use Rattle.fr_lpc.proofs.Scaled.{within_map, scaled_bound}
use Rattle.fr_lpc.proofs.scaling.scale_down.Goals as goal

pub loop-x-preserved : goal.loop-x-preserved
loop-x-preserved c =
    let x : FitsSigned w16 (entry c.loop-x.s c.loop-x.x-index) = search rules in
    let r : FitsSigned w16 c.scaled_sample.result = search rules in
    let e = simp to_z-of_z at c.scaled_sample.ensures in
    over_more (scaled_sample c.args.scaling) c.args.s.now c.loop-x.s c.loop-x.x-index _ (omega (arith, c.told-s)) c.loop-x.invariant (to_z-of_z w16 _ r ∙ e)

pub returns-clause-bound : goal.returns-clause-bound
returns-clause-bound c =
    let f = scaled_sample c.args.scaling in
    within_map f c.args.s.now c.loop-x.s 2048
    (over_all f c.args.s.now c.loop-x.s c.loop-x.x-index (omega (arith, c.told-s)) c.loop-x.invariant)
    (λ i h. scaled_bound (entry c.args.s.now i) c.args.scaling (search rules) c.requires.at_most_4 (c.requires.room i h))

pub returns-clause-value : goal.returns-clause-value
unfolding scaled_down
returns-clause-value c =
    rw (ne_eqb c.args.scaling 0 c.if-scaling-eq0.false)
    (over_all (scaled_sample c.args.scaling) c.args.s.now c.loop-x.s c.loop-x.x-index (omega (arith, c.told-s)) c.loop-x.invariant)

pub returns-then-scaling-eq0-clause-value : goal.returns-then-scaling-eq0-clause-value
unfolding scaled_down
returns-then-scaling-eq0-clause-value c = rw c.if-scaling-eq0.true refl

pub returns-then-scaling-eq0-clause-bound : goal.returns-then-scaling-eq0-clause-bound
returns-then-scaling-eq0-clause-bound c = rw c.if-scaling-eq0.true at c.requires.room
