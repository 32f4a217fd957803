use Rattle.fr_long.proofs.Predictions.{is_prediction, same}
use Rattle.fr_long.proofs.laws.one_prediction.Goals as goal

pub returns-clause-is_prediction : goal.returns-clause-is_prediction
returns-clause-is_prediction c = is_prediction

pub returns-clause-only : goal.returns-clause-only
returns-clause-only c = same
