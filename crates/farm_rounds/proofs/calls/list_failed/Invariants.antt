use Rattle.std.proofs.Common.{◌≡◌, ◌+◌, ◌*◌, ◌≤◌, ◌++◌, map, take, vec_len, vec_capacity}
use Rattle.std.specs.List.{flat_map}
use Rattle.round_lines.specs.Memory.{failed_in_round, line_name}
use Rattle.farm_rounds.specs.Opens.{portions_of}
use Rattle.farm_rounds.proofs.calls.list_failed.Given as goal

abbrev pub invariant-loop-call : goal.invariant-loop-call
invariant-loop-call l = record {
  listed : map line_name l.failed.items
      ≡ map line_name l.initial.failed.items ++ flat_map (λ s. failed_in_round s.lines) (take l.call-index (portions_of l.calls));
  few : vec_len l.failed ≤ vec_len l.initial.failed + 4 * l.call-index;
  room : vec_capacity l.failed ≡ vec_capacity l.initial.failed;
}
