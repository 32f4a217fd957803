use Rattle.run_calls_spec.proofs.Periods.{is_whole, history_same}
use Rattle.run_calls_spec.proofs.laws.calls_are_whole.Goals as goal

pub returns-clause-whole : goal.returns-clause-whole
returns-clause-whole g = is_whole

pub returns-clause-periods : goal.returns-clause-periods
returns-clause-periods g = history_same
