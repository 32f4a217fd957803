use Rattle.fr_long.proofs.Lags.{has_lag, lag_is}
use Rattle.fr_long.proofs.laws.one_lag.Goals as goal

pub returns-clause-is_lag : goal.returns-clause-is_lag
returns-clause-is_lag c = has_lag

pub returns-clause-only : goal.returns-clause-only
returns-clause-only c = lag_is
