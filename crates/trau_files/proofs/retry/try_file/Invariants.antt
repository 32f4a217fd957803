-- Each write so far was interrupted, and one more may be made.
use Rattle.std.proofs.Common.{◌<◌}
use Rattle.trau_files.specs.Folder.{OneTake}
use Rattle.trau_files.specs.Tries.{Interruptions}
use Rattle.trau_files.proofs.retry.try_file.Given as goal

abbrev pub invariant-loop-tries : goal.invariant-loop-tries
invariant-loop-tries g l = record {
  bound : l.tries < 1000;
  before : Interruptions (OneTake g.D.Folder.does) l.tries (l.initial.folder, l.initial.file) (l.folder, l.file);
}
