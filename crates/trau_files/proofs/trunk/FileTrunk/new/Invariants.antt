use Rattle.std.proofs.Common.{◌≡◌, ◌≤◌, vec_len, vec_capacity, All}
use Rattle.trau_files.proofs.trunk.FileTrunk.new.Given as goal

abbrev pub invariant-loop : goal.invariant-loop
invariant-loop g l = record {
  size : vec_len l.lines ≡ l.counter;
  capacity : 16388 ≤ vec_capacity l.lines;
  each : All (λ one. one ≡ record { read = 0; written = 0; faults = 0 }) l.lines.items;
}
