use Rattle.std.proofs.Common.{get_or, [], rules, FitsSigned, w16}
use Rattle.std.proofs.lemmas.Int.{to_z-of_z}
use Rattle.trau_num.specs.Num.{entry}
use Rattle.fr_short.specs.Reflection.{part_start}
use Rattle.fr_short.proofs.Parts.{by_parts}
use Rattle.fr_short.proofs.analysis.spread.Goals as goal

pub returns : goal.returns
unfolding part_start
returns c = λ k l.
    let f0 : FitsSigned w16 (entry (get_or c.args.parts.now 0 []) c.args.i) = search rules in
    let f1 : FitsSigned w16 (entry (get_or c.args.parts.now 1 []) c.args.i) = search rules in
    let f2 : FitsSigned w16 (entry (get_or c.args.parts.now 2 []) c.args.i) = search rules in
    by_parts (λ p. entry (get_or c.args.parts.now p []) c.args.i) k _ _ _ _ l
    (simp to_z-of_z at (c.fill_part.ensures k))
    (simp to_z-of_z at (c.fill_part-2.ensures k))
    (simp to_z-of_z at (c.fill_part-3.ensures k))
