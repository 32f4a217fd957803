use Rattle.std.proofs.Common.{◌≡◌, ◌<◌, ◌≤◌, ◌+◌, ℕ, length, drop, reverse}
use Rattle.std.specs.Prelude.{vec_capacity}
use Rattle.call_number.specs.declared.TheConstants.{NUMBERS}
use Rattle.farm_run.specs.Facts.{sent_until, span_lines, sent_in_table}
use Rattle.farm_run.proofs.report.span_lines.Given as goal

abbrev pub invariant-loop-k : goal.invariant-loop-k
invariant-loop-k l = record {
  long : length l.sent.items ≡ NUMBERS;
  sent : (c : ℕ) → c < NUMBERS →
      sent_in_table l.sent.items c ≡ sent_until (sent_in_table l.initial.sent.items)
      (drop l.k l.spans) (drop l.k l.bridges) c;
  count : length l.lines.items + l.k ≡ l.most;
  room : l.most ≤ vec_capacity l.lines;
  lines : reverse l.lines.items ≡ span_lines (sent_in_table l.initial.sent.items) (drop l.k l.spans) (drop l.k l.bridges);
}
