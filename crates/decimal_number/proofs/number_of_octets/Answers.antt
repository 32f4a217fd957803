use Rattle.decimal_number.proofs.Parsing.{utf8_number}
use Rattle.decimal_number.proofs.number_of_octets.Goals as goal

pub returns-in-Err-clause-none : goal.returns-in-Err-clause-none
returns-in-Err-clause-none c = λ none n is. c.in-Err.ensures.cases.0 (utf8_number _ _ c.args.octets.now n c.ranges.high.fits is)
