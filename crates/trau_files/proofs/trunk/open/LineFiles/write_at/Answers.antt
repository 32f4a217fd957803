use Rattle.std.proofs.Common.{IsSomeAnd, ap, sym, subst}
use Rattle.trau_files.specs.declared.trunk.bays.Access.TheVariants.{Writing}
use Rattle.trau_files.specs.Files.{OpenFiles, in_bay}
use Rattle.trau_files.specs.Bays.{FreesBays}
use Rattle.trau_files.specs.Trunk.{IsFound}
use Rattle.trau_files.proofs.Freeing.{frees_still}
use Rattle.trau_files.proofs.Moves.{its_line, writes_file}
use Rattle.trau_files.proofs.trunk.open.LineFiles.write_at.Goals as goal

pub returns-clause-file : goal.returns-clause-file
returns-clause-file g c =
    let bays = ap (λ (f : OpenFiles _ _). f.bays) c.self.view_is in
    let was = in_bay c.bay.new.self.bays c.in_ok-bay.bay in
    let found = subst (λ (f : OpenFiles _ _). IsSomeAnd was (IsFound g.D.Folder.does c.args.self.now f.folder f.claims c.args.line.call c.args.line.side Writing c.args.at))
    (sym c.self.view_is) c.in_ok-bay.ensures.found in
    writes_file g.D.Folder.does c.args.self.now _ c.bay.new.self.bays c.args.line.call c.args.line.side c.args.at c.self.inside.folder was
    (in_bay c.write.new.self c.in_ok-bay.bay) c.write.result c.args.bytes.now found c.in_ok-bay.ensures.open
    (rw (sym bays) c.write.ensures.after) (rw (sym bays) c.write.ensures.once) (rw (sym bays) c.write.ensures.open)

pub returns-clause-freed : goal.returns-clause-freed
returns-clause-freed g c =
    let line = c.args.line in
    let mid : OpenFiles g.row.D.Denot g.row.D-File.Denot = record { bays = c.self.inside.bays; claims = c.self.inside.claims; next = c.self.inside.place.next; last = c.self.inside.place.last; folder = c.self.inside.folder } in
    let freed = subst (λ (f : OpenFiles _ _). FreesBays g.D.Folder.does c.args.self.now f line.call line.side Writing c.args.at) (sym c.self.view_is) c.in_ok-bay.ensures.freed in
    let ours = its_line g.D.Folder.does c.args.self.now _ _ line.call line.side Writing c.args.at (in_bay c.bay.new.self.bays c.in_ok-bay.bay) c.in_ok-bay.ensures.found in
    let bays = ap (λ (f : OpenFiles _ _). f.bays) c.self.view_is in
    frees_still g.D.Folder.does line.call line.side Writing c.args.at c.args.self.now mid c.write.new.self c.write.new.folder c.in_ok-bay.bay (rw bays ours) c.write.ensures.others freed
