use Rattle.run_spec.proofs.Periods.Same.{period_settled}
use Rattle.run_spec.proofs.Periods.Next.{period_by, handed_bridged, periods_more}
use Rattle.run_spec.proofs.laws.periods_are_settled.Goals as goal

pub returns-clause-period : goal.returns-clause-period
returns-clause-period c = period_settled

pub returns-clause-more : goal.returns-clause-more
returns-clause-more c = periods_more

pub returns-clause-settings : goal.returns-clause-settings
returns-clause-settings c = period_by

pub returns-clause-handed : goal.returns-clause-handed
returns-clause-handed c = handed_bridged
