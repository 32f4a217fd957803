use Rattle.farm_tools.proofs.Machines.{encode_lawful}
use Rattle.farm_tools.proofs.encoding.EncodingBlockMachine.shape.Goals as goal

pub returns-clause-law : goal.returns-clause-law
returns-clause-law c = encode_lawful
