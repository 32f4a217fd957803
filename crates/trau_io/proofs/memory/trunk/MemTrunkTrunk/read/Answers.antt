use Rattle.std.proofs.Common.{sym, ◌∙◌, ap, slice_set}
use Rattle.trau_io.specs.Memory.{known_line}
use Rattle.trau_io.proofs.Tables.{replaced}
use Rattle.trau_io.proofs.memory.trunk.MemTrunkTrunk.read.Goals as goal

pub returns : goal.returns
returns c =
    let line = replaced known_line _ _ _ _ _ _ c.read.new.self c.self.view_is (sym c.self.inside.lines.ok.0 ∙ c.self.invariant) c.line_index.ensures.value
    c.line_index.ensures.within c.index_mut.ensures.value in
    record {
      this = rw (line.was, line.is) c.read.ensures.reads;
      others = line.others;
      answer = rw line.found c.read.ensures.answer;
      after = rw line.found (line.put ∙ ap (slice_set _ _) c.read.ensures.after);
    }
