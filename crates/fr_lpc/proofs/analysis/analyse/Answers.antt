use Rattle.std.proofs.Common.{rules}
use Rattle.fr_lpc.proofs.analysis.analyse.Goals as goal

pub returns-clause-samples : goal.returns-clause-samples
returns-clause-samples c = search rules
