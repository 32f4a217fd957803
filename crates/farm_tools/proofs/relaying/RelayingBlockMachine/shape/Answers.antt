use Rattle.farm_tools.proofs.Machines.{relay_lawful}
use Rattle.farm_tools.proofs.relaying.RelayingBlockMachine.shape.Goals as goal

pub returns-clause-law : goal.returns-clause-law
returns-clause-law c = relay_lawful
