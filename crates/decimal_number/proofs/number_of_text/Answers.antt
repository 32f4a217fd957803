use Rattle.std.proofs.Common.{◌≡◌, rules, arith}
use Rattle.decimal_number.proofs.Parsing.{plain_number, parse_number, number_from_parse}
use Rattle.decimal_number.proofs.number_of_text.Goals as goal

pub returns-then-not-is_plain-clause-none : goal.returns-then-not-is_plain-clause-none
returns-then-not-is_plain-clause-none c = λ none n is. let plain = plain_number _ _ c.args.text.now n c.ranges.high.fits is in search
    (rules, c.if-not-is_plain.ensures)

pub returns-in-Ok-clause-some : goal.returns-in-Ok-clause-some
returns-in-Ok-clause-some c = number_from_parse _ _ c.args.text.now c.in-Ok.number c.parse.result c.parse.ensures.value.0 c.in-Ok.is
    (search rules) c.if-low-number.true c.if-number-high.true

pub returns-in_default-clause-none : goal.returns-in_default-clause-none
returns-in_default-clause-none c = λ none n is.
    let parsed = parse_number _ _ c.args.text.now n c.parse.result c.ranges.high.fits c.parse.ensures.value.0 is in
    let same : c.in-Ok.number ≡ n = cc in
    absurd (omega (arith, is.at_most))

pub returns-in_default-2-clause-none : goal.returns-in_default-2-clause-none
returns-in_default-2-clause-none c = λ none n is.
    let parsed = parse_number _ _ c.args.text.now n c.parse.result c.ranges.high.fits c.parse.ensures.value.0 is in
    let same : c.in-Ok.number ≡ n = cc in
    absurd (omega (arith, is.at_least))

pub returns-in_default-3-clause-none : goal.returns-in_default-3-clause-none
returns-in_default-3-clause-none c = λ none n is. let parsed = parse_number _ _ c.args.text.now n c.parse.result c.ranges.high.fits c.parse.ensures.value.0
    is in cc
