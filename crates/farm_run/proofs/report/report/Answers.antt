use Rattle.std.proofs.Common.{arith, ap, ◌∙◌, List, length}
use Rattle.switchboard.specs.declared.act.Span.{Span}
use Rattle.switchboard.specs.State.{told_in}
use Rattle.switchboard.specs.Ends.{spans_now, spans_of}
use Rattle.farm_run.specs.declared.notes.SentBefore.{SentBefore}
use Rattle.farm_run.specs.Facts.{span_lines, sent_in_table}
use Rattle.farm_run.proofs.Reported.Reporting.{length-numbered}
use Rattle.std.proofs.lemmas.Result.{IfOk-from_err}
use Rattle.farm_run.proofs.report.report.Goals as goal

pub returns : goal.returns
returns c =
    let b = c.args.board.now in
    let sent = sent_in_table c.in_ok-sent.sent.items in
    record {
      replies = c.in_ok-to_vec.ensures.items_if_clones_equal (λ x y h. h) ∙ c.replies.ensures;
      failed = c.in_ok-to_vec-2.ensures.items_if_clones_equal (λ x y h. h) ∙ c.failed.ensures.value;
      left = omega (arith, c.saturating_sub.ensures, ap length c.replies-2.ensures, length-numbered 0 b.done);
      ends = c.in_ok-call_lines.ensures.ends;
      calls = c.in_ok-call_lines.ensures.lines;
      sent = c.in_ok-sent.sent.items;
      sent_is = c.in_ok-sent.ensures.sent;
      spans =
          c.in_ok-span_lines.ensures ∙ ap (λ (ss : List Span). span_lines sent ss c.bridges.result.now) c.spans.ensures.now
          ∙ ap (λ (ns : List SentBefore). span_lines sent (spans_now (told_in b) b.done) ns) c.bridges.ensures;
      whole = λ given periods all.
          c.in_ok-span_lines.ensures ∙ ap (λ (ss : List Span). span_lines sent ss c.bridges.result.now)
          (c.spans.ensures.whole given periods all)
          ∙ ap (λ (ns : List SentBefore). span_lines sent (spans_of given periods b.done) ns) c.bridges.ensures;
    }

pub returns-in_err-sent : goal.returns-in_err-sent
returns-in_err-sent c = IfOk-from_err _ _ c.from_residual.ensures.0

pub returns-in_err-call_lines : goal.returns-in_err-call_lines
returns-in_err-call_lines c = IfOk-from_err _ _ c.from_residual-in_err-call_lines.ensures.0

pub returns-in_err-to_vec : goal.returns-in_err-to_vec
returns-in_err-to_vec c = IfOk-from_err _ _ c.from_residual-in_err-to_vec.ensures.0

pub returns-in_err-span_lines : goal.returns-in_err-span_lines
returns-in_err-span_lines c = IfOk-from_err _ _ c.from_residual-in_err-span_lines.ensures.0

pub returns-in_err-to_vec-2 : goal.returns-in_err-to_vec-2
returns-in_err-to_vec-2 c = IfOk-from_err _ _ c.from_residual-in_err-to_vec-2.ensures.0
