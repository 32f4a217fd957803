-- Each read so far was interrupted, and one more may be made.
use Rattle.std.proofs.Common.{◌<◌}
use Rattle.trau_files.specs.Folder.{OneGive}
use Rattle.trau_files.specs.Tries.{Interruptions}
use Rattle.trau_files.proofs.retry.read_file.Given as goal

abbrev pub invariant-loop-tries : goal.invariant-loop-tries
invariant-loop-tries g l = record {
  bound : l.tries < 1000;
  before : Interruptions (OneGive g.D.Folder.does l.initial.folder) l.tries l.initial.file l.file;
}
