use Rattle.std.proofs.Common.{rules}
use Rattle.trau_files.proofs.Tries.{writes_nothing, writes_once}
use Rattle.trau_files.proofs.retry.write_some.Goals as goal

pub returns-in-Ok-eq0-clause-once : goal.returns-in-Ok-eq0-clause-once
returns-in-Ok-eq0-clause-once g c = writes_nothing g.W.WriteOnce.writing _ _ _ _ _ (search rules) c.in-Ok-eq0.ensures c.from.ensures

pub returns-in_default-clause-once : goal.returns-in_default-clause-once
returns-in_default-clause-once g c = writes_once g.W.WriteOnce.writing _ _ _ _ c.in_default.ensures

pub returns-in_default-2-clause-once : goal.returns-in_default-2-clause-once
returns-in_default-2-clause-once g c = writes_once g.W.WriteOnce.writing _ _ _ _ c.try_write.ensures
