use Rattle.std.proofs.Common.{rules, get_or, pos, FitsSigned, w16}
use Rattle.fr_short.proofs.Behind.{turned}
use Rattle.fr_short.proofs.synthesis.backwards.Goals as goal

pub returns-clause-value : goal.returns-clause-value
returns-clause-value c =
    let xs = c.args.words.now in
    let a : FitsSigned w16 (get_or xs 0 (pos 0)) = search rules in
    let b : FitsSigned w16 (get_or xs 1 (pos 0)) = search rules in
    let d : FitsSigned w16 (get_or xs 2 (pos 0)) = search rules in
    let e : FitsSigned w16 (get_or xs 3 (pos 0)) = search rules in
    let f : FitsSigned w16 (get_or xs 4 (pos 0)) = search rules in
    let g : FitsSigned w16 (get_or xs 5 (pos 0)) = search rules in
    let h : FitsSigned w16 (get_or xs 6 (pos 0)) = search rules in
    let i : FitsSigned w16 (get_or xs 7 (pos 0)) = search rules in
    turned xs c.told-words a b d e f g h i
