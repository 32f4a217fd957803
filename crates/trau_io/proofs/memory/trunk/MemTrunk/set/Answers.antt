use Rattle.std.proofs.Common.{rules}
use Rattle.trau_io.proofs.memory.trunk.MemTrunk.set.Goals as goal

pub returns-clause-ok : goal.returns-clause-ok
returns-clause-ok c = search rules

pub returns-in_err-made-clause-err : goal.returns-in_err-made-clause-err
returns-in_err-made-clause-err c = search rules
