use Rattle.std.proofs.Common.{◌≡◌, ◌+◌, ◌≤◌, ◌++◌, map, take, vec_len, vec_capacity}
use Rattle.std.specs.List.{filter_map}
use Rattle.round_lines.specs.Memory.{line_name, name_where_failed, sides}
use Rattle.round_lines.proofs.call_lines.CallLines.list_failed.Given as goal

abbrev pub invariant-loop-side : goal.invariant-loop-side
invariant-loop-side l = record {
  listed : map line_name l.failed.items ≡ map line_name l.initial.failed.items ++ filter_map (name_where_failed l.self) (take l.side-index sides);
  few : vec_len l.failed ≤ vec_len l.initial.failed + l.side-index;
  room : vec_capacity l.failed ≡ vec_capacity l.initial.failed;
}
