-- What a command leaves, said of the folder that is returned.
use Rattle.std.specs.Prelude.{◌≡◌, ℕ, List, Some}
use Rattle.std.proofs.Common.{sym, subst}
use Rattle.trau_io.specs.declared.line.Side.{Side}
use Rattle.trau_io.specs.Desks.{DeskState}
use Rattle.trau_io.specs.Lines.{LineState}
use Rattle.trau_files.specs.Contents.{first_if}
use Rattle.trau_files.specs.Disk.{Disk}
use Rattle.files_top.specs.Promises.{TopPromise}
use Rattle.files_top.specs.RunOnDisk.{CommandLeaves}
use Rattle.memory_folder.specs.Honest.{honest_in_memory}
use Rattle.memory_folder.specs.Leaves.{LeavesInMemory}
use Rattle.memory_folder.specs.Memory.{StoredFile, disk_of}

-- what the command leaves in the files that the lines have is left in those of the folder that they give back
pub left_in_memory : (words : List (List ℕ)) (start : Disk) (files given : List StoredFile) (after : ℕ → Side → LineState) (desk desk' : DeskState) (status : ℕ) →
    given ≡ files → TopPromise words (first_if (Some honest_in_memory) start) after desk desk' status →
    CommandLeaves words start (disk_of files) (first_if (Some honest_in_memory) start) after desk desk' status →
    LeavesInMemory words start (disk_of given) desk desk' status
left_in_memory words start files given after desk desk' status same top left = record {
  after = after;
  top = top;
  files = subst (λ (x : List StoredFile). CommandLeaves words start (disk_of x) (first_if (Some honest_in_memory) start) after desk desk' status) (sym same) left;
}
