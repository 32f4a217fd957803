use Rattle.std.proofs.Common.{rules}
use Rattle.trau_num.specs.Num.{shl_of}
use Rattle.trau_num.proofs.words.shl16.Goals as goal

pub returns : goal.returns
unfolding shl_of
returns c = search rules
