use Rattle.std.proofs.Common.{pos, refl, rules, ◌∙◌, FitsSigned, w16}
use Rattle.std.proofs.lemmas.Int.{to_z-of_z}
use Rattle.trau_num.proofs.Fill.{fill_none, fill_next, fill_all}
use Rattle.trau_num.specs.Num.{entry}
use Rattle.tx_dtx.specs.SilenceDescriptor.{mean_ratio}
use Rattle.tx_dtx.proofs.sid.mean_ratios.Goals as goal

pub loop-i-preserved : goal.loop-i-preserved
unfolding mean_ratio
loop-i-preserved c =
    let r : FitsSigned w16 c.mean_ratio.result = search rules in
    let xa : FitsSigned w16 (entry c.args.a.now.lar c.loop-i.i) = search rules in
    let xb : FitsSigned w16 (entry c.args.b.now.lar c.loop-i.i) = search rules in
    let xc : FitsSigned w16 (entry c.args.c.now.lar c.loop-i.i) = search rules in
    let xd : FitsSigned w16 (entry c.args.d.now.lar c.loop-i.i) = search rules in
    let e = simp to_z-of_z at c.mean_ratio.ensures in
    fill_next (pos 0) _ c.loop-i.mean 8 c.loop-i.i _ c.loop-i-test.true c.loop-i.invariant (to_z-of_z w16 _ r ∙ e)

pub loop-i-init : goal.loop-i-init
loop-i-init c = fill_none (pos 0) _ _ 8 refl

pub returns : goal.returns
returns c = fill_all (pos 0) _ c.loop-i.mean 8 c.loop-i.i c.loop-i-test.false c.loop-i.invariant
