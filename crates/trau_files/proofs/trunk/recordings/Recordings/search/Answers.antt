use Rattle.std.proofs.Common.{List, Option, arith, subst, sym}
use Rattle.trau_files.specs.declared.trunk.claims.FileIdentity.{FileIdentity}
use Rattle.trau_files.specs.Recordings.{AreSearched, LeadsNowhere}
use Rattle.trau_files.proofs.Searching.{none_searched, one_more, were_searched}
use Rattle.trau_files.proofs.trunk.recordings.Recordings.search.Goals as goal

pub loop-call-init : goal.loop-call-init
loop-call-init g c = record {
  searched = none_searched g.D.Folder.does (LeadsNowhere g.D.Folder.does c.args.folder.now) c.args.self.now;
  led = λ before. before;
}

pub loop-call-preserved : goal.loop-call-preserved
loop-call-preserved g c = record {
  searched = one_more g.D.Folder.does (LeadsNowhere g.D.Folder.does c.args.folder.now) c.loop-call.self c.note.new.self c.note-in-loop-call.new.self c.loop-call.call c.loop-call.invariant.searched
      c.note.ensures.looked c.note.ensures.others c.note-in-loop-call.ensures.looked c.note-in-loop-call.ensures.others;
  led = λ before. c.note-in-loop-call.ensures.led (c.note.ensures.led (c.loop-call.invariant.led before));
}

pub invariant_of-self : goal.invariant_of-self
invariant_of-self g c =
    let last : AreSearched (LeadsNowhere g.D.Folder.does c.args.folder.now) c.loop-call.self 4097 =
    λ call side incoming low none. c.loop-call.invariant.searched call side incoming (omega (arith, low, c.loop-call-test.false)) none in (
      c.self.invariant.0,
      c.self.invariant.1,
      λ searched. were_searched g.D.Folder.does c.args.folder.now _ 4097
          (subst (λ (files : List (Option FileIdentity)). AreSearched (LeadsNowhere g.D.Folder.does c.args.folder.now) files 4097) (sym c.self.view_is) last),
    )
