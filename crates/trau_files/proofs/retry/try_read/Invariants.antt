-- Each read so far was interrupted, and one more may be made.
use Rattle.std.proofs.Common.{◌<◌}
use Rattle.trau_files.specs.Folder.{OneRead}
use Rattle.trau_files.specs.Tries.{Interruptions}
use Rattle.trau_files.proofs.retry.try_read.Given as goal

abbrev pub invariant-loop-tries : goal.invariant-loop-tries
invariant-loop-tries g l = record {
  bound : l.tries < 1000;
  before : Interruptions (OneRead g.R.ReadOnce.reading) l.tries l.initial.reader l.reader;
}
