use Rattle.farm_drill.proofs.Drawing.{state-first}
use Rattle.farm_drill.proofs.draws.Generator.new.Goals as goal

pub returns : goal.returns
returns c = state-first c.args.seed c.args.call
