use Rattle.std.proofs.Common.{sym, subst, List, Option, ◌∙◌, ap, slice_set}
use Rattle.trau_io.proofs.Tables.{replaced}
use Rattle.trau_io.specs.Indices.{index_of_line}
use Rattle.trau_files.specs.declared.trunk.claims.Claim.{Claim}
use Rattle.trau_files.specs.Claims.{OthersKeep}
use Rattle.trau_files.specs.Files.{OpenFiles, known_line}
use Rattle.trau_files.specs.declared.trunk.bays.Access.TheVariants.{Writing}
use Rattle.trau_files.specs.Bays.{FreesBays}
use Rattle.trau_files.specs.Trunk.{PassesOn, WritesFile, TrunkFiles}
use Rattle.trau_files.proofs.Honest.Writes.{write_holds}
use Rattle.trau_files.proofs.trunk.FileTrunkTrunk.write.Goals as goal

pub returns : goal.returns
returns g c =
    let lines_seen = ap (λ (t : TrunkFiles _ _). t.lines) c.self.view_is in
    let files_seen = ap (λ (t : TrunkFiles _ _). t.files) c.self.view_is in
    let claims_seen = ap (λ (t : TrunkFiles _ _). t.files.claims) c.self.view_is in
    let line = replaced known_line _ _ _ _ _ _ c.write.new.self lines_seen
    (sym c.self.inside.lines.ok.0 ∙ c.self.invariant.0) c.line_index.ensures.value c.line_index.ensures.within c.index_mut.ensures.value in
    let lines = line.put ∙ ap (slice_set _ _) c.write.ensures.after in
    let files = subst (λ (fs : OpenFiles _ _). PassesOn c.write.result (λ found. WritesFile g.D.Folder.does fs c.write.new.files c.args.line.call c.args.line.side
    c.index_mut.result.now.written found c.args.bytes.now)) files_seen c.write.ensures.place in
    let bays = subst (λ (fs : OpenFiles _ _). FreesBays g.D.Folder.does fs c.write.new.files c.args.line.call c.args.line.side Writing
    c.index_mut.result.now.written) files_seen c.write.ensures.freed in
    let kept = subst (λ (cs : List (Option Claim)). OthersKeep cs c.write.new.files.claims
    (index_of_line c.args.line.call c.args.line.side)) claims_seen c.write.ensures.others in
    record {
      this = rw (line.was, line.is) c.write.ensures.writes;
      others = line.others;
      after = rw line.found (record { lines = lines; files = files; bays = bays });
      honest = write_holds g.D.Folder.does c.args.self.now _ c.args.line.call c.args.line.side c.index_mut.result.now c.write.result c.args.bytes.now line.found (rw (line.was, line.is) c.write.ensures.writes) line.others c.write.ensures.apart
          (record { lines = lines; files = files; bays = bays });
      apart = c.write.ensures.apart;
      kept = kept;
    }
