use Rattle.std.proofs.Common.{◌∙◌, rules, arith, FitsSigned, w16}
use Rattle.std.proofs.lemmas.Int.{to_z-of_z}
use Rattle.trau_num.specs.Num.{entry}
use Rattle.fr_decoder.specs.Truncation.{truncated}
use Rattle.trau_num.proofs.Mapped.{over_more, over_all}
use Rattle.fr_decoder.proofs.truncation.truncate.Goals as goal

pub loop-sample-preserved : goal.loop-sample-preserved
loop-sample-preserved c =
    let x : FitsSigned w16 (entry c.loop-sample.x c.loop-sample.sample-index) = search rules in
    let r : FitsSigned w16 c.truncated.result = search rules in
    let e = simp to_z-of_z at c.truncated.ensures in
    over_more truncated c.args.x.now c.loop-sample.x c.loop-sample.sample-index _ (omega (arith, c.told-x)) c.loop-sample.invariant
    (to_z-of_z w16 _ r ∙ e)

pub returns : goal.returns
returns c = over_all truncated c.args.x.now c.loop-sample.x c.loop-sample.sample-index (omega (arith, c.told-x)) c.loop-sample.invariant
