use Rattle.std.proofs.Common.{sym, subst, List, Option, ◌∙◌, ap, slice_set}
use Rattle.trau_io.proofs.Tables.{replaced}
use Rattle.trau_io.specs.Indices.{index_of_line}
use Rattle.trau_files.specs.declared.trunk.claims.Claim.{Claim}
use Rattle.trau_files.specs.Claims.{OthersKeep}
use Rattle.trau_files.specs.Files.{OpenFiles, known_line}
use Rattle.trau_files.specs.declared.trunk.bays.Access.TheVariants.{Reading}
use Rattle.trau_files.specs.Bays.{FreesBays}
use Rattle.trau_files.specs.Trunk.{PassesOn, ReadsFile, TrunkFiles}
use Rattle.trau_files.proofs.Honest.Reads.{read_holds}
use Rattle.trau_files.proofs.Unwriting.{read_notes}
use Rattle.trau_files.proofs.trunk.FileTrunkTrunk.read.Goals as goal

pub returns : goal.returns
returns g c =
    let lines_seen = ap (λ (t : TrunkFiles _ _). t.lines) c.self.view_is in
    let files_seen = ap (λ (t : TrunkFiles _ _). t.files) c.self.view_is in
    let claims_seen = ap (λ (t : TrunkFiles _ _). t.files.claims) c.self.view_is in
    let line = replaced known_line _ _ _ _ _ _ c.read.new.self lines_seen
    (sym c.self.inside.lines.ok.0 ∙ c.self.invariant.0) c.line_index.ensures.value c.line_index.ensures.within c.index_mut.ensures.value in
    let lines = line.put ∙ ap (slice_set _ _) c.read.ensures.after in
    let files = subst (λ (fs : OpenFiles _ _). PassesOn c.read.result (λ found. ReadsFile g.D.Folder.does fs c.read.new.files c.args.line.call c.args.line.side
    c.index_mut.result.now.read found c.read.new.buf)) files_seen c.read.ensures.place in
    let bays = subst (λ (fs : OpenFiles _ _). FreesBays g.D.Folder.does fs c.read.new.files c.args.line.call c.args.line.side Reading
    c.index_mut.result.now.read) files_seen c.read.ensures.freed in
    let kept = subst (λ (cs : List (Option Claim)). OthersKeep cs c.read.new.files.claims
    (index_of_line c.args.line.call c.args.line.side)) claims_seen c.read.ensures.others in
    record {
      this = rw (line.was, line.is) c.read.ensures.reads;
      others = line.others;
      after = rw line.found (record { lines = lines; files = files; bays = bays });
      honest = read_holds g.D.Folder.does c.args.self.now _ c.args.line.call c.args.line.side c.index_mut.result.now c.read.result c.read.new.buf line.found (rw (line.was, line.is) c.read.ensures.reads) line.others c.read.ensures.apart
          (record { lines = lines; files = files; bays = bays });
      apart = c.read.ensures.apart;
      kept = kept;
      notes = read_notes g.D.Folder.does c.args.self.now _ c.args.line.call c.args.line.side c.index_mut.result.now c.read.result c.read.new.buf
          (record { lines = lines; files = files; bays = bays });
    }
