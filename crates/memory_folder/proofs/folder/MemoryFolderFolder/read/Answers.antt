use Rattle.std.proofs.Common.{refl, rules}
use Rattle.memory_folder.proofs.Operations.{gives_octets}
use Rattle.memory_folder.proofs.folder.MemoryFolderFolder.read.Goals as goal

pub returns-clause-gave : goal.returns-clause-gave
returns-clause-gave c = (
  gives_octets c.args.self.now c.self.inside.files.items c.args.file.now.number c.args.file.now.at c.read-count.result c.read-count.new.buf c.index.result.now
      c.self.view_is (search rules) c.index.ensures c.read-count.ensures.small c.read-count.ensures.octets,
  refl,
)
