use Rattle.trau_submux.proofs.Splitting.{split_lawful}
use Rattle.trau_submux.proofs.cut.SplittingBlockMachine.shape.Goals as goal

pub returns-clause-law : goal.returns-clause-law
returns-clause-law c = split_lawful
