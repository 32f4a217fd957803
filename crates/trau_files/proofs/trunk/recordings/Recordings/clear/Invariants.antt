-- No file is noted before this place.
use Rattle.std.proofs.Common.{◌≡◌, ◌≢◌, ◌<◌, ℕ, Some, false, vec_len}
use Rattle.trau_files.specs.declared.trunk.claims.FileIdentity.{FileIdentity}
use Rattle.trau_files.specs.Recordings.{AreRecordings, noted_at}
use Rattle.trau_files.proofs.trunk.recordings.Recordings.clear.Given as goal

abbrev pub invariant-loop-place : goal.invariant-loop-place
invariant-loop-place g l = record {
  number : vec_len l.self-inside.of_lines ≡ 16388;
  recordings : AreRecordings g.D.Folder.does l.self-inside.of_lines.items;
  searched : l.self-inside.is_searched ≡ false;
  cleared : (k : ℕ) (file : FileIdentity) → k < l.place → noted_at l.self-inside.of_lines.items k ≢ Some file;
}
