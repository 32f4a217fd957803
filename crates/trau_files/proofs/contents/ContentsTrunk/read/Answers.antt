use Rattle.std.specs.Prelude.{IfSome, slice_get}
use Rattle.std.proofs.Common.{subst}
use Rattle.trau_io.specs.Indices.{index_of_line}
use Rattle.trau_io.specs.Lines.{Reads}
use Rattle.trau_files.specs.Trunk.{TrunkFiles, TrunkReads}
use Rattle.trau_files.proofs.Knowing.{KeepsKnown, read_known}
use Rattle.trau_files.proofs.contents.ContentsTrunk.read.Goals as goal

pub returns : goal.returns
returns g c =
    let all = subst (λ (t : TrunkFiles _ _). KeepsKnown g.D.Folder.honest g.K.AtStart.start t c.read.new.self c.args.line.call c.args.line.side
    (λ a b. Reads a b c.read.result c.read.new.buf)) c.self.view_is
    (read_known g.D.Folder.honest g.K.AtStart.start c.self.inside.trunk c.read.new.self c.args.line.call c.args.line.side c.read.result c.read.new.buf
    c.read.ensures.this c.read.ensures.others c.read.ensures.honest c.read.ensures.kept c.read.ensures.notes c.self.invariant) in
    let passes = subst (λ (t : TrunkFiles _ _). IfSome (slice_get t.lines (index_of_line c.args.line.call c.args.line.side))
    (λ l. TrunkReads g.D.Folder.does t c.read.new.self c.args.line.call c.args.line.side l c.read.result c.read.new.buf)) c.self.view_is c.read.ensures.after in
    record { this = all.1; others = all.2; passes = passes }

pub invariant_of-self : goal.invariant_of-self
invariant_of-self g c = (read_known g.D.Folder.honest g.K.AtStart.start c.self.inside.trunk c.read.new.self c.args.line.call c.args.line.side c.read.result c.read.new.buf
    c.read.ensures.this c.read.ensures.others c.read.ensures.honest c.read.ensures.kept c.read.ensures.notes c.self.invariant).0
