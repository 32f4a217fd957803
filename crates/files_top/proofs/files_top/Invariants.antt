use Rattle.trau_files.specs.Contents.{disk_if}
use Rattle.files_top.proofs.files_top.Given as goal

abbrev pub ghosts-from_start : goal.ghosts-from_start
ghosts-from_start g a = record { start = disk_if g.D.Folder.honest a.folder }
