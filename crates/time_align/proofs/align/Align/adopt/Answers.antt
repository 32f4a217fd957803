use Rattle.std.proofs.Common.{rules}
use Rattle.time_align.proofs.align.Align.adopt.Goals as goal

pub returns-then-self-clause-step : goal.returns-then-self-clause-step
returns-then-self-clause-step c = search rules
