use Rattle.std.proofs.Common.{rules}
use Rattle.time_align.proofs.align.Align.freeze.Goals as goal

pub returns-clause-step : goal.returns-clause-step
returns-clause-step c = search rules
