use Rattle.trau_files.proofs.Searching.{no_recording}
use Rattle.trau_files.proofs.trunk.recordings.Recordings.place_of.Goals as goal

pub returns-clause-none : goal.returns-clause-none
returns-clause-none g c = λ none. no_recording g.D.Folder.does c.args.folder.now c.args.is_new c.refresh.new.self c.args.file c.refresh.ensures.led c.refresh.ensures.searched
    (c.position.ensures.none none)
