use Rattle.std.specs.Prelude.{IfSome, slice_get}
use Rattle.std.proofs.Common.{refl, subst, Err}
use Rattle.trau_io.specs.Indices.{index_of_line}
use Rattle.trau_io.specs.Lines.{Writes}
use Rattle.trau_files.specs.Trunk.{TrunkFiles, TrunkWrites}
use Rattle.trau_files.proofs.Knowing.{KeepsKnown, recorded_or_made, refuse_known, write_known}
use Rattle.trau_files.proofs.contents.ContentsTrunk.write.Goals as goal

pub invariant_of-self : goal.invariant_of-self
invariant_of-self g c = (refuse_known g.D.Folder.honest g.K.AtStart.start c.self.inside.trunk c.refuse.new.self c.args.line.call c.args.line.side c.refuse.result
    c.args.bytes.now (c.is_recorded.ensures.recorded c.if-is_recorded.true) (c.refuse.ensures.this c.args.bytes.now) c.refuse.ensures.others c.refuse.ensures.counts
    c.refuse.ensures.files c.self.invariant).0

pub returns-then-is_recorded : goal.returns-then-is_recorded
returns-then-is_recorded g c =
    let all = subst (λ (t : TrunkFiles _ _). KeepsKnown g.D.Folder.honest g.K.AtStart.start t c.refuse.new.self c.args.line.call c.args.line.side
    (λ a b. Writes a b (Err c.refuse.result) c.args.bytes.now)) c.self.view_is
    (refuse_known g.D.Folder.honest g.K.AtStart.start c.self.inside.trunk c.refuse.new.self c.args.line.call c.args.line.side c.refuse.result
    c.args.bytes.now (c.is_recorded.ensures.recorded c.if-is_recorded.true) (c.refuse.ensures.this c.args.bytes.now) c.refuse.ensures.others c.refuse.ensures.counts
    c.refuse.ensures.files c.self.invariant) in
    record { this = all.1; others = all.2; passes = λ made. absurd (recorded_or_made c.args.line.side (c.is_recorded.ensures.recorded c.if-is_recorded.true) made); fails = λ recorded. refl }

pub invariant_of-self-2 : goal.invariant_of-self-2
invariant_of-self-2 g c = (write_known g.D.Folder.honest g.K.AtStart.start c.self.inside.trunk c.write.new.self c.args.line.call c.args.line.side c.write.result
    c.args.bytes.now (c.is_recorded.ensures.made c.if-is_recorded.false) c.write.ensures.this c.write.ensures.others c.write.ensures.honest c.write.ensures.kept c.self.invariant).0

pub returns : goal.returns
returns g c =
    let all = subst (λ (t : TrunkFiles _ _). KeepsKnown g.D.Folder.honest g.K.AtStart.start t c.write.new.self c.args.line.call c.args.line.side
    (λ a b. Writes a b c.write.result c.args.bytes.now)) c.self.view_is
    (write_known g.D.Folder.honest g.K.AtStart.start c.self.inside.trunk c.write.new.self c.args.line.call c.args.line.side c.write.result
    c.args.bytes.now (c.is_recorded.ensures.made c.if-is_recorded.false) c.write.ensures.this c.write.ensures.others c.write.ensures.honest c.write.ensures.kept c.self.invariant) in
    let passes = subst (λ (t : TrunkFiles _ _). IfSome (slice_get t.lines (index_of_line c.args.line.call c.args.line.side))
    (λ l. TrunkWrites g.D.Folder.does t c.write.new.self c.args.line.call c.args.line.side l c.write.result c.args.bytes.now)) c.self.view_is c.write.ensures.after in
    record {
      this = all.1;
      others = all.2;
      passes = λ made. passes;
      fails = λ recorded. absurd (recorded_or_made c.args.line.side recorded (c.is_recorded.ensures.made c.if-is_recorded.false));
    }
