use Rattle.std.proofs.Common.{◌≡◌, ◌<◌, ℕ, Option, length}
use Rattle.call_number.specs.declared.TheConstants.{NUMBERS}
use Rattle.call_number.specs.CallNumber.{IsCallNumber}
use Rattle.farm_rounds.specs.Histories.{CallHistory, CallsStand}
use Rattle.farm_run.specs.Facts.{sent_in_table, kept_in}
use Rattle.farm_run.proofs.report.sent_by_all.Given as goal

abbrev pub invariant-loop-call : goal.invariant-loop-call
invariant-loop-call l = record {
  long : length l.sent.items ≡ NUMBERS;
  sent : (h : ℕ → Option CallHistory) → CallsStand h l.farm.calls → (c : ℕ) → IsCallNumber c → c < l.call →
      sent_in_table l.sent.items c ≡ (let kept = kept_in l.farm.tallies h c in kept.sent);
}
