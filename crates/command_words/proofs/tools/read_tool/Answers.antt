use Rattle.std.proofs.Common.{◌≡◌, ◌∷◌, [], ◌∙◌, rules, arith, string_bytes}
use Rattle.command_words.proofs.Asking.{two, tool_on}
use Rattle.command_words.proofs.tools.read_tool.Goals as goal

pub returns-clause-none : goal.returns-clause-none
returns-clause-none c = λ none a asks.
    let spelled = two (λ w. string_bytes w) c.args.words.now c.name-item.result c.number-item.result
    (omega (arith, c.in-len2.len_at_least, c.in-len2.len_below)) c.name-item.is c.number-item.is in
    let name : string_bytes c.name-item.result ≡ c.as_str-2.result.now = search rules in
    let number : string_bytes c.number-item.result ≡ c.as_str.result.now = search rules in
    c.tool_named.ensures.none none a
    (tool_on _ c.as_str-2.result.now c.as_str.result.now a c.in_ok-call.call (spelled ∙ (λ i. name i ∷ number i ∷ [])) c.in_ok-call.ensures.some asks)
