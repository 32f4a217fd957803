-- The incoming lines of each call before this one were looked up.
use Rattle.trau_files.specs.Recordings.{AreLed, AreSearched, LeadsNowhere, LeadsTo}
use Rattle.trau_files.proofs.trunk.recordings.Recordings.search.Given as goal

abbrev pub invariant-loop-call : goal.invariant-loop-call
invariant-loop-call g l = record {
  searched : AreSearched (LeadsNowhere g.D.Folder.does l.folder) l.self l.call;
  led : AreLed (LeadsTo g.D.Folder.does l.folder) l.initial.self → AreLed (LeadsTo g.D.Folder.does l.folder) l.self;
}
