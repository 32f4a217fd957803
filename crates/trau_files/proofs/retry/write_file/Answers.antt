use Rattle.std.proofs.Common.{inl, rules}
use Rattle.trau_files.proofs.Tries.{takes_nothing}
use Rattle.trau_files.proofs.retry.write_file.Goals as goal

pub returns-in-Ok-eq0-clause-once : goal.returns-in-Ok-eq0-clause-once
returns-in-Ok-eq0-clause-once g c = takes_nothing g.D.Folder.does _ _ _ _ _ _ _ (search rules) c.in-Ok-eq0.ensures c.from.ensures

pub returns-in_default-clause-once : goal.returns-in_default-clause-once
returns-in_default-clause-once g c = record { last = inl c.in_default.ensures }

pub returns-in_default-2-clause-once : goal.returns-in_default-2-clause-once
returns-in_default-2-clause-once g c = record { last = inl c.try_file.ensures }
