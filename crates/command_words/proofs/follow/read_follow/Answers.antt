use Rattle.std.proofs.Common.{◌≡◌, ◌∷◌, [], ◌∙◌, codes, rules, arith, string_bytes}
use Rattle.command_words.proofs.Following.{are_follow, three}
use Rattle.command_words.proofs.follow.read_follow.Goals as goal

pub returns-clause-some : goal.returns-clause-some
returns-clause-some c =
    let spelled = three (λ w. string_bytes w) c.args.words.now c.name-item.result c.number-item.result c.place-item.result
    (omega (arith, c.in-len3.len_at_least, c.in-len3.len_below)) c.name-item.is c.number-item.is c.place-item.is in
    let name : string_bytes c.name-item.result ≡ c.as_str.result.now = search rules in
    let number : string_bytes c.number-item.result ≡ c.as_str-2.result.now = search rules in
    let place : string_bytes c.place-item.result ≡ c.as_str-3.result.now = search rules in
    let follow : c.as_str.result.now ≡ codes "follow" = search rules in
    are_follow _ c.as_str.result.now c.as_str-2.result.now c.as_str-3.result.now _ _
    (spelled ∙ (λ i. name i ∷ number i ∷ place i ∷ [])) follow c.in_ok-number_of_text.ensures.some c.in_ok-wanted.ensures.some
