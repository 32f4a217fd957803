use Rattle.std.proofs.Common.{◌++◌, string_bytes, get_or, take, ap, sym, ◌∙◌}
use Rattle.std.proofs.lemmas.List.{flat_map_more, take_more}
use Rattle.std.proofs.lemmas.List.Elements.{All-more}
use Rattle.std.specs.List.{flat_map}
use Rattle.farm_checkpoint.specs.declared.mark.MarkCall.{MarkCall}
use Rattle.farm_checkpoint.specs.Marks.{HasSums}
use Rattle.farm_checkpoint.specs.Text.{call_text}
use Rattle.farm_checkpoint.proofs.write.put_calls.Goals as goal

abbrev no_call : MarkCall
no_call = record { call = 0; from = 0; out = 0; down = 0 }

pub loop-call-preserved : goal.loop-call-preserved
loop-call-preserved c =
    let i = c.loop-call.call-index in
    let calls = c.args.calls.now in
    let old = string_bytes c.args.text.now in
    let one = get_or calls i no_call in
    record {
      text = c.in_ok-put_call.ensures.text ∙ ap (λ t. t ++ call_text one) c.loop-call.invariant.text
          ∙ flat_map_more call_text old (take i calls) one ∙ ap (λ cs. old ++ flat_map call_text cs) (sym (take_more calls i no_call c.loop-call-test.true));
      sums = All-more HasSums calls i no_call c.loop-call-test.true c.loop-call.invariant.sums c.in_ok-put_call.ensures.sums;
    }
