use Rattle.std.proofs.Common.{rules}
use Rattle.rx_subst.specs.Lost.{lost_of}
use Rattle.rx_subst.proofs.lost.lost_frame.Goals as goal

pub returns-then-n-eq1-clause-fields : goal.returns-then-n-eq1-clause-fields
unfolding lost_of
returns-then-n-eq1-clause-fields c = search rules
