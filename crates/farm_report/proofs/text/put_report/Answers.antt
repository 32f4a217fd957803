use Rattle.std.proofs.Common.{◌≡◌, List, ℕ, ◌++◌, string_bytes, ap, ◌∙◌, append_assoc}
use Rattle.std.proofs.lemmas.Result.{on_ok_weaker}
use Rattle.std.specs.List.{flat_map}
use Rattle.farm_report.specs.View.{ReportView}
use Rattle.farm_report.specs.Lines.{reply_line, span_line, call_lines, failed_line, last_line, report_text}
use Rattle.farm_report.proofs.text.put_report.Goals as goal

regroup : (a b c d e f : List ℕ) → ((((a ++ b) ++ c) ++ d) ++ e) ++ f ≡ a ++ ((((b ++ c) ++ d) ++ e) ++ f)
regroup a b c d e f = simp append_assoc

whole : (r : ReportView) (old replies spans calls failed text : List ℕ) → replies ≡ old ++ flat_map reply_line r.replies →
    spans ≡ replies ++ flat_map span_line r.spans
    → calls ≡ spans ++ flat_map call_lines r.calls → failed ≡ calls ++ flat_map failed_line r.failed → text ≡ failed ++ last_line r.calls r.left →
    text ≡ old ++ report_text r
unfolding report_text
whole r old replies spans calls failed text a b c d e =
    e ∙ ap (λ t. t ++ last_line r.calls r.left)
    (d ∙ ap (λ t. t ++ flat_map failed_line r.failed) (c ∙ ap (λ t. t ++ flat_map call_lines r.calls) (b ∙ ap (λ t. t ++ flat_map span_line r.spans) a)))
    ∙ regroup old (flat_map reply_line r.replies) (flat_map span_line r.spans) (flat_map call_lines r.calls) (flat_map failed_line r.failed)
    (last_line r.calls r.left)

pub returns : goal.returns
returns c =
    let seen = c.report.view_is in
    let replies = c.in_ok-put_all.ensures ∙ ap (λ xs. string_bytes c.args.text.now ++ flat_map reply_line xs) (c.deref.ensures.value
    ∙ ap (λ r. r.replies) seen) in
    let spans = c.in_ok-put_all-2.ensures ∙ ap (λ xs. string_bytes c.put_all.new.text ++ flat_map span_line xs) (c.deref-2.ensures.value
    ∙ ap (λ r. r.spans) seen) in
    let calls = c.in_ok-put_all-3.ensures ∙ ap (λ xs. string_bytes c.put_all-2.new.text ++ flat_map call_lines xs) (c.deref-3.ensures.value
    ∙ ap (λ r. r.calls) seen) in
    let failed = c.in_ok-put_all-4.ensures ∙ ap (λ xs. string_bytes c.put_all-3.new.text ++ flat_map failed_line xs) (c.deref-4.ensures.value
    ∙ ap (λ r. r.failed) seen) in
    let last = ap (λ xs. string_bytes c.put_all-4.new.text ++ last_line xs c.report.inside.left) (c.deref-5.ensures.value ∙ ap (λ r. r.calls) seen)
    ∙ ap (λ r. string_bytes c.put_all-4.new.text ++ last_line c.args.report.now.calls r.left) seen in
    on_ok_weaker c.put_last.result
    (λ put. whole c.args.report.now (string_bytes c.args.text.now) (string_bytes c.put_all.new.text) (string_bytes c.put_all-2.new.text)
    (string_bytes c.put_all-3.new.text) (string_bytes c.put_all-4.new.text) (string_bytes c.put_last.new.text)
    replies spans calls failed (put ∙ last)) c.put_last.ensures
