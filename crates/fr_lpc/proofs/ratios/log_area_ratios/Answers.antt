use Rattle.std.proofs.Common.{pos, rules, ◌∙◌, FitsSigned, w16}
use Rattle.std.proofs.lemmas.Int.{to_z-of_z}
use Rattle.trau_num.proofs.Fill.{fill_next, fill_all}
use Rattle.trau_num.specs.Num.{entry}
use Rattle.fr_lpc.specs.Ratios.{ratios_of}
use Rattle.fr_lpc.proofs.ratios.log_area_ratios.Goals as goal

pub loop-i-preserved : goal.loop-i-preserved
loop-i-preserved c =
    let r : FitsSigned w16 c.ratio.result = search rules in
    let x : FitsSigned w16 (entry c.args.rs.now c.loop-i.i) = search rules in
    let e = simp to_z-of_z at c.ratio.ensures in
    fill_next (pos 0) _ c.loop-i.lar 8 c.loop-i.i _ c.loop-i-test.true c.loop-i.invariant (to_z-of_z w16 _ r ∙ e)

pub returns : goal.returns
unfolding ratios_of
returns c = fill_all (pos 0) _ c.loop-i.lar 8 c.loop-i.i c.loop-i-test.false c.loop-i.invariant
