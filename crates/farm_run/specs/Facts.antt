-- What the report of a run says (this project's profile).
use Rattle.std.specs.Prelude.{◌≡◌, ℕ, ◌-◌, ◌==◌, if◌then◌else◌, Option, option_map, List, [], ◌∷◌, length, map, slice_index_or}
use Rattle.std.specs.List.{filter_map}
use Rattle.call_number.specs.CallNumber.{IsCallNumber, call_numbers}
use Rattle.switchboard.specs.declared.act.Span.{Span}
use Rattle.switchboard.specs.Ends.{Given, start_of, spans_now, spans_of}
use Rattle.switchboard.specs.Runs.{AllEndedAt}
use Rattle.switchboard.specs.State.{State, told_in, end_so_far, replies_from}
use Rattle.farm_report.specs.declared.report.SpanLine.{SpanLine}
use Rattle.farm_report.specs.declared.report.CallLine.{CallLine}
use Rattle.farm_report.specs.View.{ReportView}
use Rattle.farm_rounds.specs.declared.tally.Tally.{Tally}
use Rattle.farm_rounds.specs.Memory.{FarmMemory, tally_in}
use Rattle.farm_rounds.specs.Histories.{CallHistory, CallsStand, kept_of}
use Rattle.farm_run.specs.declared.notes.SentBefore.{SentBefore}

-- what a call has sent in its latest bridge before these ones: the note of the first of them that is its own, or what
-- it has sent so far
abbrev pub sent_until : (ℕ → ℕ) → List Span → List SentBefore → ℕ → ℕ
sent_until sent (x ∷ xs) (n ∷ ns) c =
    if c == x.a then n.by_a else if c == x.b then n.by_b else sent_until sent xs ns c
sent_until sent _ _ c = sent c

-- The report's line of a bridge in which its calls have sent so many frames: each sends the other's frames, and for
-- each period of the bridge without a sent frame, a frame is lost.
abbrev pub span_line : Span → ℕ → ℕ → SpanLine
span_line s by_a by_b =
    let periods = s.to - s.from in
    record {
      span = s;
      sent_a = by_b;
      sent_b = by_a;
      lost_a = periods - by_b;
      lost_b = periods - by_a;
    }

-- The lines of all bridges: what a call sent in one is what its next bridge notes, or what it has sent so far.
abbrev pub span_lines : (ℕ → ℕ) → List Span → List SentBefore → List SpanLine
span_lines sent (x ∷ xs) (n ∷ ns) =
    span_line x (sent_until sent xs ns x.a) (sent_until sent xs ns x.b) ∷ span_lines sent xs ns
span_lines sent _ _ = []

-- how many frames each call has sent in its latest bridge, in a table by number
abbrev pub sent_in_table : List ℕ → ℕ → ℕ
sent_in_table sent c = slice_index_or sent c 0

-- the tally of a call: of an open call over its periods, of an ended call the one that is kept
abbrev pub kept_in : List Tally → (ℕ → Option CallHistory) → ℕ → Tally
kept_in tallies h c = kept_of (h c) (tally_in tallies c)

-- the report's line of a call, if it has ended
abbrev pub call_line : State → (ℕ → Tally) → ℕ → Option CallLine
call_line b kept c =
    option_map (λ e. record { end = e; from = start_of b.done c; counts = (kept c).counts })
    (end_so_far b c)

-- The report of a run of so many orders, from board, farm and notes, after the end of each call was reported to the
-- board.
pub record Reports (b : State) (farm : FarmMemory) (notes : List SentBefore) (orders : ℕ)
    (report : ReportView) : Type 0 where
  pub replies : report.replies ≡ replies_from 0 b.done
  pub failed : report.failed ≡ farm.failed
  pub left : report.left ≡ orders - length b.done
  -- one line for each call that has ended, in call-number order
  pub ends : map (λ l. l.end) report.calls ≡ filter_map (end_so_far b) call_numbers
  pub calls : (h : ℕ → Option CallHistory) → CallsStand h farm.calls →
      report.calls ≡ filter_map (call_line b (kept_in farm.tallies h)) call_numbers
  -- how many frames each call has sent in its latest bridge
  pub sent : List ℕ
  pub sent_is : (h : ℕ → Option CallHistory) → CallsStand h farm.calls → (c : ℕ) → IsCallNumber c →
      sent_in_table sent c ≡ (let kept = kept_in farm.tallies h c in kept.sent)
  -- the bridges that have ended, with the numbers of frames that their calls have sent in them
  pub spans : report.spans ≡ span_lines (sent_in_table sent) (spans_now (told_in b) b.done) notes
  -- if each call has ended where its lines and the run end it, these are all bridges
  pub whole : (given : ℕ → Given) (periods : ℕ) → AllEndedAt given periods b →
      report.spans ≡ span_lines (sent_in_table sent) (spans_of given periods b.done) notes
