use Rattle.std.proofs.Common.{rules}
use Rattle.fr_pre.proofs.compensation.pull.Goals as goal

pub returns-clause-value : goal.returns-clause-value
returns-clause-value c = search rules
