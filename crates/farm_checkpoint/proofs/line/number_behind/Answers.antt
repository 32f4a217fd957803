use Rattle.std.proofs.Common.{refl, arith}
use Rattle.farm_checkpoint.proofs.Fields.{no_stop, no_number}
use Rattle.farm_checkpoint.proofs.line.number_behind.Goals as goal

pub returns-in_err-digits-clause-none : goal.returns-in_err-digits-clause-none
returns-in_err-digits-clause-none c = λ none n rest is.
    no_stop _ _ _ n _ _ _ rest c.in_ok-rest.ensures.some (c.in_err-digits.ensures.none refl) is

pub returns-in_err-number-clause-none : goal.returns-in_err-number-clause-none
returns-in_err-number-clause-none c = λ none n rest is.
    no_number _ _ _ n _ _ _ _ _ rest c.requires (omega (arith, c.ranges.high.fits)) c.in_ok-rest.ensures.some c.in_ok-digits.ensures.some
    (c.in_err-number.ensures.none refl) is
