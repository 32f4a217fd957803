use Rattle.fr_sides.proofs.OneHeard.{one-heard}
use Rattle.fr_sides.proofs.laws.one_is_heard.Goals as goal

pub returns : goal.returns
returns c = one-heard
