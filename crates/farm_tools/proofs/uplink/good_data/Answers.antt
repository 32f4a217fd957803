use Rattle.std.proofs.Common.{rules}
use Rattle.farm_tools.proofs.uplink.good_data.Goals as goal

pub returns-clause-good : goal.returns-clause-good
returns-clause-good c = search rules
