use Rattle.std.proofs.Common.{◌∙◌, rules, FitsSigned, w16}
use Rattle.std.proofs.lemmas.Int.{to_z-of_z}
use Rattle.trau_num.specs.Num.{entry}
use Rattle.trau_params.specs.Ratios.{offsets, least_ratios}
use Rattle.fr_short.specs.Ratios.{inverses}
use Rattle.fr_short.proofs.ratios.ratio_at.Goals as goal

pub returns : goal.returns
returns c =
    let f : FitsSigned w16 (entry least_ratios c.args.i) = search rules in
    let g : FitsSigned w16 (entry offsets c.args.i) = search rules in
    let h : FitsSigned w16 (entry inverses c.args.i) = search rules in
    let e = simp to_z-of_z at c.ratio.ensures in
    let r : FitsSigned w16 c.ratio.result = search rules in
    to_z-of_z w16 _ r ∙ e
