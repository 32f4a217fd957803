use Rattle.std.proofs.Common.{rules}
use Rattle.farm_top.proofs.farm.refuse.Goals as goal

pub returns : goal.returns
returns g c = search rules
