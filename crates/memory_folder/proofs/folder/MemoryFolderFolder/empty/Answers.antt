use Rattle.std.proofs.Common.{arith, refl, rules}
use Rattle.memory_folder.proofs.Operations.{changes_to, read_at}
use Rattle.memory_folder.proofs.folder.MemoryFolderFolder.empty.Goals as goal

pub returns : goal.returns
returns c =
    let here = read_at c.args.self.now c.self.inside.files.items c.args.file.now.number c.index_mut.result.now c.self.view_is (search rules) c.index_mut.ensures.value in (
      changes_to c.args.self.now c.self.inside.files.items c.args.file.now.number c.index_mut.result.now c.empty.new.self _ c.self.view_is (search rules) here
          (omega arith) c.empty.ensures,
      refl,
    )
