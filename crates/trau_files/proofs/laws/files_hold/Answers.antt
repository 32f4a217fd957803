use Rattle.trau_files.proofs.Honest.Known.{empty_files, gave_files, took_files}
use Rattle.trau_files.proofs.laws.files_hold.Goals as goal

pub returns : goal.returns
returns g c = record {
  given = λ honest start given put t holds. gave_files start (honest.disk t.files.folder) t.files.claims given put holds.files;
  taken = λ honest start given put t holds. took_files start (honest.disk t.files.folder) t.files.claims given put holds.files;
  empty = λ honest start given put t holds. empty_files start (honest.disk t.files.folder) t.files.claims given put holds.files;
  others = λ honest start given put t holds. holds.files.unwritten;
}
