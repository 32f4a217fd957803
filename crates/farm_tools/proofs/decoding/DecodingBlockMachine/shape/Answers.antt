use Rattle.farm_tools.proofs.Machines.{decode_lawful}
use Rattle.farm_tools.proofs.decoding.DecodingBlockMachine.shape.Goals as goal

pub returns-clause-law : goal.returns-clause-law
returns-clause-law c = decode_lawful
