use Rattle.trau_submux.proofs.Splitting.{split_makes}
use Rattle.trau_submux.proofs.cut.SplittingBlockMachine.make.Goals as goal

pub returns-clause-makes : goal.returns-clause-makes
returns-clause-makes c = split_makes c.args.block.now c.cut_block.new.subs c.requires.bound c.cut_block.ensures.long c.cut_block.ensures.channels
