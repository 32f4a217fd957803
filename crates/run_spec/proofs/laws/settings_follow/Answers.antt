use Rattle.run_spec.proofs.Periods.SoFar.{standing_now}
use Rattle.run_spec.proofs.Bridges.Later.{next_settings}
use Rattle.run_spec.proofs.Orders.Settings.{settings_ordered}
use Rattle.run_spec.proofs.laws.settings_follow.Goals as goal

pub returns-clause-order : goal.returns-clause-order
returns-clause-order g = settings_ordered

pub returns-clause-period : goal.returns-clause-period
returns-clause-period g = λ r t u ds left c s. next_settings r t u ds c (standing_now r t ds left s)
