use Rattle.std.proofs.Common.{false, rules}
use Rattle.trau_files.proofs.trunk.open.open_or_make.Goals as goal

pub returns-in-Err-2 : goal.returns-in-Err-2
returns-in-Err-2 g c = record { opens = (false, (search rules, search rules)) }
