-- What a command leaves in the files of a folder in memory (this project's profile).
use Rattle.std.specs.Prelude.{ℕ, List, Some}
use Rattle.trau_io.specs.declared.line.Side.{Side}
use Rattle.trau_io.specs.Desks.{DeskState}
use Rattle.trau_io.specs.Lines.{LineState}
use Rattle.trau_files.specs.Contents.{first_if}
use Rattle.trau_files.specs.Disk.{Disk}
use Rattle.files_top.specs.Promises.{TopPromise}
use Rattle.files_top.specs.RunOnDisk.{CommandLeaves}
use Rattle.memory_folder.specs.Honest.{honest_in_memory}

-- What the command that these words name leaves in the files, which were `start` and are `now`, and all that the top
-- function promises of it. The lines are known before it by the files; `after` are the lines that it leaves, with the
-- counts of their faults.
pub record LeavesInMemory (words : List (List ℕ)) (start now : Disk) (desk desk' : DeskState) (status : ℕ) : Type 0 where
  pub after : ℕ → Side → LineState
  pub top : TopPromise words (first_if (Some honest_in_memory) start) after desk desk' status
  pub files : CommandLeaves words start now (first_if (Some honest_in_memory) start) after desk desk' status
