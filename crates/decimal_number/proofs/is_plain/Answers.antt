use Rattle.std.proofs.Common.{rules}
use Rattle.decimal_number.proofs.is_plain.Goals as goal

pub returns-in-len1-up : goal.returns-in-len1-up
returns-in-len1-up c = search rules
