use Rattle.std.proofs.Common.{◌≡◌, ◌≤◌, None, vec_len, vec_capacity, All}
use Rattle.trau_files.proofs.trunk.bays.Bays.new.Given as goal

abbrev pub invariant-loop : goal.invariant-loop
invariant-loop g l = record {
  size : vec_len l.files ≡ l.counter;
  capacity : 256 ≤ vec_capacity l.files;
  each : All (λ bay. bay ≡ None) l.files.items;
}
