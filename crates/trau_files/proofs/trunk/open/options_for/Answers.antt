use Rattle.std.proofs.Common.{rules}
use Rattle.trau_files.proofs.trunk.open.options_for.Goals as goal

pub returns : goal.returns
returns c = search rules
