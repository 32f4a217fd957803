use Rattle.std.proofs.Common.{◌∷◌, ◌∙◌, length, ap, sym, arith}
use Rattle.std.proofs.lemmas.Bool.{eqb-false}
use Rattle.trau_orders.proofs.TextLines.{first_line, rest_shorter, only_line, no_line, of_or, some_of_or}
use Rattle.trau_orders.proofs.text.split_line.Goals as goal

pub returns-clause-some : goal.returns-clause-some
returns-clause-some c = rw c.or.ensures (of_or c.split_at_octet.result _ _ _ c.split_at_octet.ensures.some
    (λ none. only_line c.args.text.now (c.split_at_octet.ensures.none none) (eqb-false (length c.args.text.now) 0 (sym c.if-is_empty.ensures))
    ∙ ap (λ ls. c.args.text.now ∷ ls) (sym no_line))
    (λ parts at. first_line c.args.text.now parts.0.now parts.1.now at))

pub returns-clause-shorter : goal.returns-clause-shorter
returns-clause-shorter c = rw c.or.ensures (of_or c.split_at_octet.result _ _ _ c.split_at_octet.ensures.some
    (λ none. omega (arith, eqb-false (length c.args.text.now) 0 (sym c.if-is_empty.ensures)))
    (λ parts at. rest_shorter c.args.text.now parts.0.now parts.1.now at))

pub returns-clause-none : goal.returns-clause-none
returns-clause-none c = rw c.or.ensures (λ none. absurd (some_of_or c.split_at_octet.result _ none))
