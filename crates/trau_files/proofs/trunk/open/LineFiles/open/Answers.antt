use Rattle.std.proofs.Common.{None, Ok, subst, sym}
use Rattle.trau_files.specs.Files.{IsFileOf, OnlyCloses, OpenFiles}
use Rattle.trau_files.specs.Opening.{Opens}
use Rattle.trau_files.specs.Bays.{FreesNext, HoldsOrLessens}
use Rattle.trau_files.proofs.Freeing.{frees_for_it, frees_only, freed}
use Rattle.trau_files.proofs.BayLaws.{closed_still}
use Rattle.trau_files.proofs.trunk.open.LineFiles.open.Goals as goal

pub put-requires : goal.put-requires
put-requires g c =
    let line = c.args.line in
    let closed = subst (λ (f : OpenFiles _ _). IsFileOf f.bays line.call line.side None) (sym c.self.view_is) c.requires in
    let closes = subst (λ (f : OpenFiles _ _). OnlyCloses c.free.new.self f.bays) (sym c.self-2.view_is) c.open_or_lessen.ensures.bays in
    closed_still c.free.new.self c.self-2.inside.bays line.call line.side closes
    (closed_still c.self.inside.bays c.free.new.self line.call line.side c.free.ensures.others closed)

pub returns-in_err-file-clause-freed : goal.returns-in_err-file-clause-freed
returns-in_err-file-clause-freed g c =
    let line = c.args.line in
    let old : OpenFiles g.row.D.Denot g.row.D-File.Denot = record { bays = c.self.inside.bays; claims = c.self.inside.claims; next = c.self.inside.place.next; last = c.self.inside.place.last; folder = c.self.inside.folder } in
    subst (λ (f : OpenFiles _ _). FreesNext g.D.Folder.does f c.open_or_lessen.new.self line.call line.side c.args.access c.args.at) c.self.view_is
    (frees_only g.D.Folder.does line.call line.side c.args.access c.args.at old c.open_or_lessen.new.self c.free.new.self _ c.free.ensures.freed
    c.open_or_lessen.ensures.held c.in_err-file.ensures.opens)

pub returns-clause-freed : goal.returns-clause-freed
returns-clause-freed g c =
    let line = c.args.line in
    let old : OpenFiles g.row.D.Denot g.row.D-File.Denot = record { bays = c.self.inside.bays; claims = c.self.inside.claims; next = c.self.inside.place.next; last = c.self.inside.place.last; folder = c.self.inside.folder } in
    let mid : OpenFiles g.row.D.Denot g.row.D-File.Denot = record { bays = c.self-2.inside.bays; claims = c.self-2.inside.claims; next = c.self-2.inside.place.next; last = c.self-2.inside.place.last; folder = c.self-2.inside.folder } in
    let new : OpenFiles g.row.D.Denot g.row.D-File.Denot = record { bays = c.put.new.self; claims = c.self-2.inside.claims; next = c.pass.new.self.next; last = c.pass.new.self.last; folder = c.self-2.inside.folder } in
    let without = freed g.D.Folder.does line.call line.side c.args.access c.args.at old c.free.new.self in
    let held = subst (λ (f : OpenFiles _ _). HoldsOrLessens g.D.Folder.does without f line.call line.side c.args.access c.args.at) (sym c.self-2.view_is)
    c.open_or_lessen.ensures.held in
    let opens = subst (λ (f : OpenFiles _ _). Opens g.D.Folder.does old.folder f.folder old.claims f.claims line.call line.side c.args.access c.args.at
    (Ok c.in_ok-file.file)) (sym c.self-2.view_is) c.in_ok-file.ensures.opens in
    let closed = subst (λ (f : OpenFiles _ _). IsFileOf f.bays line.call line.side None) (sym c.self.view_is) c.requires in
    subst (λ (f : OpenFiles _ _). FreesNext g.D.Folder.does f new line.call line.side c.args.access c.args.at) c.self.view_is
    (frees_for_it g.D.Folder.does line.call line.side c.args.access c.args.at old mid new c.free.new.self c.in_ok-file.file c.free.ensures.freed held c.put.ensures.kept
    c.pass.ensures.next c.pass.ensures.last opens closed)
