use Rattle.std.proofs.Common.{sym, ◌∙◌, ap, slice_set}
use Rattle.trau_io.proofs.Tables.{replaced}
use Rattle.trau_files.specs.Files.{known_line}
use Rattle.trau_files.specs.Trunk.{TrunkFiles}
use Rattle.trau_files.proofs.Knowing.{counts_stay}
use Rattle.trau_files.proofs.trunk.FileTrunk.refuse.Goals as goal

pub returns : goal.returns
returns g c =
    let lines_seen = ap (λ (t : TrunkFiles _ _). t.lines) c.self.view_is in
    let files_seen = ap (λ (t : TrunkFiles _ _). t.files) c.self.view_is in
    let line = replaced known_line _ _ _ _ _ _ c.refuse.new.self lines_seen
    (sym c.self.inside.lines.ok.0 ∙ c.self.invariant.0) c.line_index.ensures.value c.line_index.ensures.within c.index_mut.ensures.value in
    let lines = line.put ∙ ap (slice_set _ _) c.refuse.ensures.after in
    record {
      this = λ bytes. rw (line.was, line.is) (c.refuse.ensures.writes bytes);
      others = line.others;
      counts = counts_stay _ _ _ _ line.found _ lines;
      files = files_seen;
    }
