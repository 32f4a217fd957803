-- For crates above: a text spells at most one number (`one_number`), and decimal digits are a model of numerals
-- (`own`).
-- What a caller knows of a spelled number.
use Rattle.std.proofs.Common.{ℕ, ◌^◌, ◌<◌, ◌≤◌, List, refl, sym, ◌∙◌, subst, arith}
use Rattle.std.specs.Prelude.{decimal}
use Rattle.std.specs.Str.Parse.{AllDigits, digits_value}
use Rattle.std.proofs.lemmas.Str.Parse.{IsNumeralModel, numerals_by_value, tells_digits}
use Rattle.std.proofs.lemmas.Fmt.{decimal_injective, digits_decimal}
use Rattle.decimal_number.specs.Number.{IsNumber, SpellsOneNumber}

pub own : IsNumeralModel (AllDigits 10) (digits_value 10)
own = numerals_by_value (AllDigits 10) tells_digits

-- a text spells at most one number
pub one_number : SpellsOneNumber
one_number text low high m low' high' n small small' first second =
    decimal_injective m n (omega (arith, first.at_most)) (omega (arith, second.at_most)) (sym first.spelled ∙ second.spelled)
