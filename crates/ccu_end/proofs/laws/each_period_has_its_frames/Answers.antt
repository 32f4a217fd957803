use Rattle.ccu_end.proofs.Every.{some-heard, one-heard}
use Rattle.ccu_end.proofs.laws.each_period_has_its_frames.Goals as goal

pub returns-clause-some : goal.returns-clause-some
returns-clause-some c = some-heard

pub returns-clause-one : goal.returns-clause-one
returns-clause-one c = one-heard
