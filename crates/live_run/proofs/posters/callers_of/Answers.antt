use Rattle.std.proofs.Common.{rules}
use Rattle.live_run.proofs.posters.callers_of.Goals as goal

pub returns-clause-callers : goal.returns-clause-callers
returns-clause-callers c = search rules

pub returns-clause-done : goal.returns-clause-done
returns-clause-done c = search rules
