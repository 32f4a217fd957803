use Rattle.std.proofs.Common.{◌++◌, string_bytes, ap, subst, ◌∙◌, arith}
use Rattle.std.specs.List.{flat_map, All}
use Rattle.farm_checkpoint.specs.Marks.{HasSums}
use Rattle.farm_checkpoint.specs.Text.{save_line, call_text}
use Rattle.farm_checkpoint.proofs.Fronts.{written}
use Rattle.farm_checkpoint.proofs.write.write_mark.Goals as goal

pub returns-clause-text : goal.returns-clause-text
unfolding save_line
returns-clause-text c =
    let period = ap (λ m. m.period) c.m.view_is in
    let calls = c.deref.ensures.value ∙ ap (λ m. m.calls) c.m.view_is in
    written c.args.m.now (string_bytes c.in_ok-text.text) (string_bytes c.put_calls.new.text) (string_bytes c.push_str.new.self)
    (c.in_ok-text.ensures.ok ∙ ap save_line period)
    (c.in_ok-put_calls.ensures.text ∙ ap (λ cs. string_bytes c.in_ok-text.text ++ flat_map call_text cs) calls)
    c.in_ok-push_str.ensures.bytes

pub returns-clause-mark : goal.returns-clause-mark
returns-clause-mark c =
    let period = ap (λ m. m.period) c.m.view_is in
    let calls = c.deref.ensures.value ∙ ap (λ m. m.calls) c.m.view_is in
    record {
      at_least = c.requires.period;
      at_most = omega (arith, period);
      are_open = c.requires.are_open;
      sums = subst (λ cs. All HasSums cs) calls c.in_ok-put_calls.ensures.sums;
    }
