use Rattle.std.proofs.Common.{refl, rules}
use Rattle.memory_folder.proofs.Operations.{read_at, writes}
use Rattle.memory_folder.proofs.folder.MemoryFolderFolder.write.Goals as goal

pub returns-clause-took : goal.returns-clause-took
returns-clause-took c =
    let here = read_at c.args.self.now c.self.inside.files.items c.args.file.now.number c.index_mut.result.now c.self.view_is (search rules) c.index_mut.ensures.value in (
      writes c.args.self.now c.self.inside.files.items c.args.file.now.number c.args.file.now.at c.in_ok-count.count c.args.bytes.now c.index_mut.result.now c.write.new.self
          c.self.view_is (search rules) here c.write.ensures.small c.write.ensures.small_after c.in_ok-count.ensures.octets,
      refl,
    )
