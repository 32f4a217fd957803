use Rattle.std.proofs.Common.{rules}
use Rattle.trau_params.proofs.block.Block.put.Goals as goal

pub returns-clause-next : goal.returns-clause-next
returns-clause-next c = search rules
