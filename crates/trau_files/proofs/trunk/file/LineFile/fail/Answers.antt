use Rattle.std.proofs.Common.{rules}
use Rattle.trau_files.proofs.trunk.file.LineFile.fail.Goals as goal

pub returns-clause-count : goal.returns-clause-count
returns-clause-count c = search rules
