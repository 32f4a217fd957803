use Rattle.std.proofs.Common.{pos, rules, ◌∙◌, FitsSigned, w16}
use Rattle.std.proofs.lemmas.Int.{to_z-of_z}
use Rattle.trau_num.proofs.Fill.{fill_next, fill_all}
use Rattle.fr_short.specs.Ratios.{decoded_ratios}
use Rattle.fr_short.proofs.ratios.decode_larc.Goals as goal

pub loop-i-preserved : goal.loop-i-preserved
loop-i-preserved c =
    let r : FitsSigned w16 c.ratio_at.result = search rules in
    fill_next (pos 0) _ c.loop-i.ratios 8 c.loop-i.i _ c.loop-i-test.true c.loop-i.invariant (to_z-of_z w16 _ r ∙ c.ratio_at.ensures)

pub returns : goal.returns
unfolding decoded_ratios
returns c = fill_all (pos 0) _ c.loop-i.ratios 8 c.loop-i.i c.loop-i-test.false c.loop-i.invariant
