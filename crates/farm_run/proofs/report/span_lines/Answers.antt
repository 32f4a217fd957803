use Rattle.std.proofs.Common.{◌≡◌, ◌<◌, ◌+◌, ◌-◌, ℕ, sym, ap, ◌∙◌, List, [], ◌∷◌, ◌++◌, length, drop, reverse, get_or, inl, inr, ◌⊎◌, arith}
use Rattle.std.proofs.lemmas.Bool.{cases_lt}
use Rattle.std.proofs.lemmas.List.{length-set, length-append, length-drop, drop_more, get_or_default}
use Rattle.switchboard.specs.declared.act.Span.{Span}
use Rattle.farm_report.specs.declared.report.SpanLine.{SpanLine}
use Rattle.farm_run.specs.declared.notes.SentBefore.{SentBefore}
use Rattle.farm_run.specs.Facts.{sent_until, span_line, span_lines, sent_in_table}
use Rattle.farm_run.specs.Noted.{no_span}
use Rattle.farm_run.proofs.Reported.Rows.{until_none, no_rows, table_before, row_before}
use Rattle.farm_run.proofs.report.span_lines.Goals as goal

pub loop-k-init : goal.loop-k-init
loop-k-init c =
    let sent = sent_in_table c.args.sent.items in
    let spans = c.args.spans.now in
    let notes = c.args.bridges.now in
    let most = c.min-most.result in
    let over : (length (drop most spans) ≡ 0) ⊎ (length (drop most notes) ≡ 0) = elim (cases_lt (length spans) (length notes)) [
      | inl l ↦ inl (omega (arith, l, c.min-most.ensures, length-drop most spans))
      | inr l ↦ inr (omega (arith, l, c.min-most.ensures, length-drop most notes))
    ] in
    record {
      long = c.requires.long;
      sent = λ d l. sym (until_none sent (drop most spans) (drop most notes) d over);
      count = omega (arith, ap length c.in_ok-lines.ensures.items);
      room = c.in_ok-lines.ensures.capacity;
      lines = ap reverse c.in_ok-lines.ensures.items ∙ sym (no_rows sent (drop most spans) (drop most notes) over);
    }

pub push_reserved-requires : goal.push_reserved-requires
push_reserved-requires c = omega (arith, c.loop-k.lines.ok.0, c.loop-k.invariant.count, c.loop-k.invariant.room, c.loop-k-test.true)

pub loop-k-preserved : goal.loop-k-preserved
loop-k-preserved c =
    let sent = sent_in_table c.args.sent.items in
    let spans = c.args.spans.now in
    let notes = c.args.bridges.now in
    let k = c.loop-k.k in
    let i = k - 1 in
    let x = get_or spans i no_span in
    let n = get_or notes i (record { by_a = 0; by_b = 0 }) in
    let xs = drop k spans in
    let ns = drop k notes in
    let table = c.loop-k.sent.items in
    let lines = c.loop-k.lines.items in
    let inv = c.loop-k.invariant in
    let next : i + 1 ≡ k = omega (arith, c.loop-k-test.true) in
    let in_spans : i < length spans = omega (arith, c.loop-k-test.true, c.min-most.ensures, inv.count) in
    let in_notes : i < length notes = omega (arith, c.loop-k-test.true, c.min-most.ensures, inv.count) in
    let at_spans : drop i spans ≡ x ∷ xs = drop_more spans i no_span in_spans ∙ ap (λ (m : ℕ). x ∷ drop m spans) next in
    let at_notes : drop i notes ≡ n ∷ ns = drop_more notes i (record { by_a = 0; by_b = 0 }) in_notes ∙ ap (λ (m : ℕ). n ∷ drop m notes) next in
    let numbers = c.requires.numbers i no_span in_spans in
    let by_a = c.index.result.now in
    let by_b = c.index-in-loop-k.result.now in
    let row : c.span_line.result ≡ span_line x (get_or table x.a 0) (get_or table x.b 0) =
    c.span_line.ensures
    ∙ ap (λ (v : ℕ). span_line x v by_b) (c.index.ensures ∙ get_or_default table x.a by_a 0 (omega (arith, inv.long, numbers.0)))
    ∙ ap (λ (v : ℕ). span_line x (get_or table x.a 0) v) (c.index-in-loop-k.ensures ∙ get_or_default table x.b by_b 0 (omega (arith, inv.long, numbers.1))) in
    record {
      long = length-set _ _ _ ∙ length-set _ _ _ ∙ inv.long;
      sent = λ d l.
          table_before sent x n xs ns table inv.long numbers.0 numbers.1 inv.sent d l ∙ sym (ap (λ (ss : List Span). sent_until sent ss (drop i notes) d) at_spans
          ∙ ap (λ (ms : List SentBefore). sent_until sent (x ∷ xs) ms d) at_notes);
      count = omega (arith, ap length c.push_reserved.ensures.items, length-append lines (c.span_line.result ∷ []), inv.count, next);
      room = omega (arith, c.push_reserved.ensures.capacity, inv.room);
      lines =
          ap reverse c.push_reserved.ensures.items ∙ ap (λ (l : SpanLine). reverse (lines ++ l ∷ [])) row
          ∙ row_before sent x n xs ns table lines numbers.0 numbers.1 inv.sent inv.lines ∙ sym (ap (λ (ss : List Span). span_lines sent ss (drop i notes)) at_spans
          ∙ ap (λ (ms : List SentBefore). span_lines sent (x ∷ xs) ms) at_notes);
    }
