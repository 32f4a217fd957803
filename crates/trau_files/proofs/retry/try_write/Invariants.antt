-- Each write so far was interrupted, and one more may be made.
use Rattle.std.proofs.Common.{◌<◌}
use Rattle.trau_files.specs.Folder.{OneWrite}
use Rattle.trau_files.specs.Tries.{Interruptions}
use Rattle.trau_files.proofs.retry.try_write.Given as goal

abbrev pub invariant-loop-tries : goal.invariant-loop-tries
invariant-loop-tries g l = record {
  bound : l.tries < 1000;
  before : Interruptions (OneWrite g.W.WriteOnce.writing) l.tries l.initial.writer l.writer;
}
