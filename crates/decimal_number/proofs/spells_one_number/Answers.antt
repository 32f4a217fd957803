use Rattle.decimal_number.proofs.Numbers.{one_number}
use Rattle.decimal_number.proofs.spells_one_number.Goals as goal

pub returns : goal.returns
returns c = one_number
