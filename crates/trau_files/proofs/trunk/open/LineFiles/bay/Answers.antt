use Rattle.std.proofs.Common.{subst, refl}
use Rattle.trau_files.specs.Files.{OpenFiles}
use Rattle.trau_files.specs.Bays.{FreesBays}
use Rattle.trau_files.proofs.Freeing.{frees_bays}
use Rattle.trau_files.proofs.trunk.open.LineFiles.bay.Goals as goal

pub returns-in-None-clause-freed : goal.returns-in-None-clause-freed
returns-in-None-clause-freed g c =
    let line = c.args.line in
    let old : OpenFiles g.row.D.Denot g.row.D-File.Denot = record { bays = c.self.inside.bays; claims = c.self.inside.claims; next = c.self.inside.place.next; last = c.self.inside.place.last; folder = c.self.inside.folder } in
    subst (λ (f : OpenFiles _ _). FreesBays g.D.Folder.does f c.open.new.self line.call line.side c.args.access c.args.at) c.self.view_is
    (frees_bays g.D.Folder.does line.call line.side c.args.access c.args.at old c.open.new.self c.find.new.self (c.in-None.ensures.missing refl)
    c.find.ensures.stay c.open.ensures.freed)
