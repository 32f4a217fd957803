use Rattle.std.proofs.Common.{rules}
use Rattle.memory_folder.proofs.Operations.{makes}
use Rattle.memory_folder.proofs.folder.MemoryFolderFolder.open.Goals as goal

pub returns-in-None : goal.returns-in-None
returns-in-None c = makes c.args.self.now c.make.new.self c.args.how.now c.args.name.now c.make.result (search rules) (search rules) c.make.ensures
