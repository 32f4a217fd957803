-- The file is noted for no line before this one.
use Rattle.std.proofs.Common.{◌≢◌, ◌<◌, ℕ, Some}
use Rattle.trau_files.specs.Recordings.{noted_at}
use Rattle.trau_files.proofs.trunk.recordings.Recordings.position.Given as goal

abbrev pub invariant-loop-place : goal.invariant-loop-place
invariant-loop-place g l = (k : ℕ) → k < l.place → noted_at l.self-inside.of_lines.items k ≢ Some l.file
