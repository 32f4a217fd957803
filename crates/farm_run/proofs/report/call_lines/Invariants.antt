use Rattle.std.proofs.Common.{◌≡◌, ◌-◌, ◌≤◌, ℕ, Option, map}
use Rattle.std.specs.List.{filter_map, range_with_len}
use Rattle.switchboard.specs.State.{end_so_far}
use Rattle.farm_report.specs.declared.report.CallLine.{CallLine}
use Rattle.farm_rounds.specs.Histories.{CallHistory, CallsStand}
use Rattle.farm_run.specs.Facts.{kept_in, call_line}
use Rattle.farm_run.proofs.report.call_lines.Given as goal

abbrev pub invariant-loop-call : goal.invariant-loop-call
invariant-loop-call l = record {
  first : 1 ≤ l.call;
  ends : map (λ (x : CallLine). x.end) l.lines.items ≡ filter_map (end_so_far l.board) (range_with_len 1 (l.call - 1));
  lines : (h : ℕ → Option CallHistory) → CallsStand h l.farm.calls →
      l.lines.items ≡ filter_map (call_line l.board (kept_in l.farm.tallies h)) (range_with_len 1 (l.call - 1));
}
