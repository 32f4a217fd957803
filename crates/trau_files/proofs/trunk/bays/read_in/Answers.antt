use Rattle.std.proofs.Common.{Err, None, subst}
use Rattle.trau_files.specs.Files.{OpenLine}
use Rattle.trau_files.specs.Tries.{GivesOnce}
use Rattle.trau_files.proofs.Faults.{gives_fault}
use Rattle.trau_files.proofs.trunk.bays.read_in.Goals as goal

pub returns-in-Err-clause-once : goal.returns-in-Err-clause-once
returns-in-Err-clause-once g c =
    gives_fault g.D.Folder.does _ _ _ None _ _ _ c.in-Some.is
    (subst (λ (o : OpenLine g.row.D-File.Denot). GivesOnce g.D.Folder.does c.args.folder.now o.file c.read_file.new.file (Err c.in-Err.fault) c.read_file.new.buf) c.open.view_is c.in-Err.ensures.once)
