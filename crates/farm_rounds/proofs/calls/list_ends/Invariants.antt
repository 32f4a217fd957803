use Rattle.std.proofs.Common.{◌≡◌, ℕ, ◌+◌, ◌<◌, ◌≤◌, ◌++◌, take, vec_len, vec_capacity}
use Rattle.std.specs.List.{filter_map}
use Rattle.round_lines.specs.Rounds.{portion_end}
use Rattle.farm_rounds.specs.Opens.{portions_of}
use Rattle.farm_rounds.specs.Opened.{open_at, OctetsFit}
use Rattle.farm_rounds.proofs.calls.list_ends.Given as goal

abbrev pub invariant-loop-call : goal.invariant-loop-call
invariant-loop-call l = record {
  listed : l.ends.items ≡ l.initial.ends.items ++ filter_map (portion_end l.start) (take l.call-index (portions_of l.calls));
  few : vec_len l.ends ≤ vec_len l.initial.ends + l.call-index;
  room : vec_capacity l.ends ≡ vec_capacity l.initial.ends;
  sound : (k : ℕ) → k < l.call-index → OctetsFit (open_at l.calls k);
}
