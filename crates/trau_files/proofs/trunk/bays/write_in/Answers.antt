use Rattle.std.proofs.Common.{Ok, Err, None, subst}
use Rattle.trau_files.specs.Files.{OpenLine}
use Rattle.trau_files.specs.Tries.{TakesOnce}
use Rattle.trau_files.proofs.Faults.{takes_fault}
use Rattle.trau_files.proofs.trunk.bays.write_in.Goals as goal

pub returns-in-Err-clause-once : goal.returns-in-Err-clause-once
returns-in-Err-clause-once g c =
    takes_fault g.D.Folder.does _ _ _ _ None _ _ _ c.in-Some.is
    (subst (λ (o : OpenLine g.row.D-File.Denot). TakesOnce g.D.Folder.does c.args.folder.now c.write_file.new.folder o.file c.write_file.new.file (Err c.in-Err.fault) c.args.bytes.now) c.open.view_is c.in-Err.ensures.once)

pub returns-in-Ok-clause-once : goal.returns-in-Ok-clause-once
returns-in-Ok-clause-once g c =
    rw c.in-Some.is
    (subst (λ (o : OpenLine g.row.D-File.Denot). TakesOnce g.D.Folder.does c.args.folder.now c.write_file.new.folder o.file c.write_file.new.file (Ok c.in-Ok.count) c.args.bytes.now) c.open.view_is c.in-Ok.ensures.once)
