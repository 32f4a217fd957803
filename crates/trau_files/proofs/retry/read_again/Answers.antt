use Rattle.trau_files.proofs.Tries.{reads_once}
use Rattle.trau_files.proofs.retry.read_again.Goals as goal

pub returns-clause-once : goal.returns-clause-once
returns-clause-once g c = reads_once g.R.ReadOnce.reading c.args.reader.now c.try_read.new.reader c.try_read.result c.try_read.new.buf c.try_read.ensures
