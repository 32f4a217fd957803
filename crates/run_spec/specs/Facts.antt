-- The report of a run.
use Rattle.std.specs.Prelude.{ℕ, ◌-◌, Bool, false, ◌&&◌, nat_le, nat_lt, Option, Some, None, is_some, List, length, map, filter}
use Rattle.call_number.specs.CallNumber.{call_numbers}
use Rattle.trau_io.specs.declared.line.Line.{Line}
use Rattle.switchboard.specs.declared.act.Span.{Span}
use Rattle.switchboard.specs.Calls.{Done, opened_at}
use Rattle.switchboard.specs.Ends.{end_of}
use Rattle.switchboard.specs.Runs.{left_of}
use Rattle.switchboard.specs.State.{replies_from}
use Rattle.farm_report.specs.declared.report.CallLine.{CallLine}
use Rattle.farm_report.specs.declared.report.SpanLine.{SpanLine}
use Rattle.farm_report.specs.View.{ReportView}
use Rattle.call_leg.specs.Periods.{CallPeriod}
use Rattle.call_leg.specs.Counted.{call_counts}
use Rattle.call_leg.specs.Down.{frames_of}
use Rattle.run_spec.specs.Run.{Run, given_in, done_in, spans_in, start_in, periods_in}

-- the calls that these orders opened, in call-number order
abbrev pub opened_calls : List Done → List ℕ
opened_calls ds = filter (λ c. is_some (opened_at c ds)) call_numbers

abbrev pub calls_in : Run → List ℕ
calls_in r = opened_calls (done_in r)

abbrev pub call_line : Run → ℕ → CallLine
call_line r c = let from = start_in r c in record {
  end = end_of (given_in r) r.periods (done_in r) c from;
  from = from;
  counts = call_counts (periods_in r c);
}

-- a frame carries what was handed over in a period from s on and before e, counted from the call's opening
abbrev pub carries_in : ℕ → ℕ → Option ℕ → Bool
carries_in s e None = false
carries_in s e (Some h) = nat_le s h && nat_lt h e

-- how many of the frames that were handed over in a span a call sends
abbrev pub sent_in : ℕ → ℕ → List CallPeriod → ℕ
sent_in s e ts = length (filter (λ f. carries_in s e f.carries) (frames_of ts))

abbrev pub sent_by : Run → Span → ℕ → ℕ
sent_by r x c = let from = start_in r c in sent_in (x.from - from) (x.to - from) (periods_in r c)

-- what a call hands over and its partner doesn't send is lost
abbrev pub span_line : Run → Span → SpanLine
span_line r x = record {
  span = x;
  sent_a = sent_by r x x.b;
  sent_b = sent_by r x x.a;
  lost_a = x.to - x.from - sent_by r x x.b;
  lost_b = x.to - x.from - sent_by r x x.a;
}

-- the report, with the lines that failed
abbrev pub report_of : Run → List Line → ReportView
report_of r failed = record {
  replies = replies_from 0 (done_in r);
  spans = map (span_line r) (spans_in r);
  calls = map (call_line r) (calls_in r);
  failed = failed;
  left = length (left_of r.periods r.orders);
}
