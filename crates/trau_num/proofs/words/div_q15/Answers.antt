use Rattle.std.proofs.Common.{rules}
use Rattle.trau_num.specs.Num.{div_of}
use Rattle.trau_num.proofs.words.div_q15.Goals as goal

pub returns-clause-value : goal.returns-clause-value
unfolding div_of
returns-clause-value c = search rules
