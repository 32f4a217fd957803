use Rattle.std.proofs.Common.{rules}
use Rattle.rx_noise.proofs.approach.code.Goals as goal

pub returns-clause-value : goal.returns-clause-value
returns-clause-value c = search rules
