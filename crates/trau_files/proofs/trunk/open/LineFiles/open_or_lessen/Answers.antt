use Rattle.std.proofs.Common.{◌∙◌, ap, inl, length, subst, sym}
use Rattle.trau_files.specs.Files.{OpenFiles, in_bay}
use Rattle.trau_files.specs.Bays.{HoldsOrLessens}
use Rattle.trau_files.proofs.Freeing.{is_short, lessens}
use Rattle.trau_files.proofs.Moves.{opens_again}
use Rattle.trau_files.proofs.trunk.open.LineFiles.open_or_lessen.Goals as goal

pub invariant_of-self : goal.invariant_of-self
invariant_of-self g c = c.open_at-in-Err-System.ensures.apart (c.open_at.ensures.apart c.self.invariant)

pub returns-in-Err-System-clause-bays : goal.returns-in-Err-System-clause-bays
returns-in-Err-System-clause-bays g c = rw (sym (ap (λ (f : OpenFiles _ _). f.bays) c.self.view_is)) c.free.ensures.others

pub returns-in-Err-System-clause-number : goal.returns-in-Err-System-clause-number
returns-in-Err-System-clause-number g c = rw (sym (ap (λ (f : OpenFiles _ _). f.bays) c.self.view_is)) c.free.ensures.number

pub returns-in-Err-System-clause-apart : goal.returns-in-Err-System-clause-apart
returns-in-Err-System-clause-apart g c = c.open_at-in-Err-System.ensures.apart (c.open_at.ensures.apart c.self.invariant)

pub returns-in-Err-System-clause-others : goal.returns-in-Err-System-clause-others
returns-in-Err-System-clause-others g c = rw (sym (ap (λ (f : OpenFiles _ _). f.claims) c.self.view_is))
    (λ k other. c.open_at-in-Err-System.ensures.others k other ∙ c.open_at.ensures.others k other)

pub returns-in-Err-System-clause-held : goal.returns-in-Err-System-clause-held
returns-in-Err-System-clause-held g c =
    let line = c.args.line in
    let old : OpenFiles g.row.D.Denot g.row.D-File.Denot = record { bays = c.self.inside.bays; claims = c.self.inside.claims; next = c.self.inside.place.next; last = c.self.inside.place.last; folder = c.self.inside.folder } in
    let new : OpenFiles g.row.D.Denot g.row.D-File.Denot = record { bays = c.free.new.self; claims = c.open_at-in-Err-System.new.claims; next = c.lessen.new.self.next; last = c.lessen.new.self.last; folder = c.open_at-in-Err-System.new.folder } in
    let short = is_short g.D.Folder.does line.call line.side c.args.access c.args.at old c.open_at.new.folder c.open_at.new.claims c.open_at.result
    c.in-Err-System.field-0 c.in-Err-System.fault c.in-Err-System.is c.in-Err-System.field-0-is c.open_at.ensures.opens
    (c.lacks_descriptor.ensures.0 c.if-lacks_descriptor.true) in
    subst (λ (f : OpenFiles _ _). HoldsOrLessens g.D.Folder.does f new line.call line.side c.args.access c.args.at) c.self.view_is
    (lessens g.D.Folder.does line.call line.side c.args.access c.args.at old new c.lessen.new.self.next c.lessen.ensures.next c.free.ensures.freed
    c.lessen.ensures.next c.lessen.ensures.last short c.free.ensures.closed)

pub returns-in-Err-System-clause-opens : goal.returns-in-Err-System-clause-opens
returns-in-Err-System-clause-opens g c =
    rw (sym (ap (λ (f : OpenFiles _ _). f.folder) c.self.view_is), sym (ap (λ (f : OpenFiles _ _). f.claims) c.self.view_is))
    (opens_again g.D.Folder.does _ _ _ _ _ _ c.args.line.call c.args.line.side c.args.access c.args.at c.open_at.result c.open_at-in-Err-System.result
    c.in-Err-System.field-0 c.in-Err-System.fault c.in-Err-System.is c.in-Err-System.field-0-is c.open_at.ensures.opens (c.lacks_descriptor.ensures.0 c.if-lacks_descriptor.true)
    c.open_at-in-Err-System.ensures.opens)

pub returns-in_default-clause-bays : goal.returns-in_default-clause-bays
returns-in_default-clause-bays g c = λ k. inl (ap (λ (f : OpenFiles _ _). in_bay f.bays k) c.self.view_is)

pub returns-in_default-clause-number : goal.returns-in_default-clause-number
returns-in_default-clause-number g c = ap (λ (f : OpenFiles _ _). length f.bays) c.self.view_is

pub returns-in_default-clause-apart : goal.returns-in_default-clause-apart
returns-in_default-clause-apart g c = c.open_at.ensures.apart c.self.invariant

pub returns-in_default-clause-others : goal.returns-in_default-clause-others
returns-in_default-clause-others g c = rw (sym (ap (λ (f : OpenFiles _ _). f.claims) c.self.view_is)) c.open_at.ensures.others

pub returns-in_default-2-clause-bays : goal.returns-in_default-2-clause-bays
returns-in_default-2-clause-bays g c = λ k. inl (ap (λ (f : OpenFiles _ _). in_bay f.bays k) c.self.view_is)

pub returns-in_default-2-clause-number : goal.returns-in_default-2-clause-number
returns-in_default-2-clause-number g c = ap (λ (f : OpenFiles _ _). length f.bays) c.self.view_is

pub returns-in_default-2-clause-apart : goal.returns-in_default-2-clause-apart
returns-in_default-2-clause-apart g c = c.open_at.ensures.apart c.self.invariant

pub returns-in_default-2-clause-others : goal.returns-in_default-2-clause-others
returns-in_default-2-clause-others g c = rw (sym (ap (λ (f : OpenFiles _ _). f.claims) c.self.view_is)) c.open_at.ensures.others

pub returns-in_default-3-clause-bays : goal.returns-in_default-3-clause-bays
returns-in_default-3-clause-bays g c = λ k. inl (ap (λ (f : OpenFiles _ _). in_bay f.bays k) c.self.view_is)

pub returns-in_default-3-clause-number : goal.returns-in_default-3-clause-number
returns-in_default-3-clause-number g c = ap (λ (f : OpenFiles _ _). length f.bays) c.self.view_is

pub returns-in_default-3-clause-apart : goal.returns-in_default-3-clause-apart
returns-in_default-3-clause-apart g c = c.open_at.ensures.apart c.self.invariant

pub returns-in_default-3-clause-others : goal.returns-in_default-3-clause-others
returns-in_default-3-clause-others g c = rw (sym (ap (λ (f : OpenFiles _ _). f.claims) c.self.view_is)) c.open_at.ensures.others
