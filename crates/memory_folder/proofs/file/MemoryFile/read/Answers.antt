use Rattle.std.proofs.Common.{rules}
use Rattle.memory_folder.proofs.Reading.{read_octets, whole_rest}
use Rattle.memory_folder.proofs.file.MemoryFile.read.Goals as goal

pub returns-clause-octets : goal.returns-clause-octets
returns-clause-octets c = read_octets c.args.self.now.octets c.copy_from_slice.new.self c.args.buf.now c.args.at c.min-start.result c.min-count.result
    (search rules) (search rules)
    (whole_rest c.args.self.now.octets c.deref.result.now c.copy_from_slice.new.self c.min-start.result c.min-count.result (search rules) c.copy_from_slice.ensures.after)
