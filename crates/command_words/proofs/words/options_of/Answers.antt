use Rattle.std.proofs.Common.{◌≡◌, ◌∷◌, ◌-◌, ◌∙◌, ap, rules, length, take, drop, map, string_bytes}
use Rattle.command_words.proofs.Asking.{headed, not_headed, same_head}
use Rattle.command_words.proofs.words.options_of.Goals.{in_default-via-then-words-lt1, in_default-via-in-len1-up+else-eq}
use Rattle.command_words.proofs.words.options_of.Goals as goal

pub returns-in-len1-up-clause-some : goal.returns-in-len1-up-clause-some
returns-in-len1-up-clause-some c =
    let name : string_bytes c.name-item.result ≡ c.args.command.now = search rules in
    headed (λ w. string_bytes w) c.args.words.now c.name-item.result c.in-len1-up.len_at_least c.name-item.is
    ∙ ap (λ n. n ∷ map (λ w. string_bytes w) (take (length c.args.words.now - 1) (drop 1 c.args.words.now))) name

pub returns-in_default-clause-none : goal.returns-in_default-clause-none
returns-in_default-clause-none c = λ none options are. elim c.in_default.branch [
  | in_default-via-then-words-lt1 w ↦ not_headed (λ w. string_bytes w) c.args.words.now c.args.command.now options (search rules) are
  | in_default-via-in-len1-up+else-eq w ↦
      let same = same_head (λ w. string_bytes w) c.args.words.now w.name-item.result c.args.command.now options w.in-len1-up.len_at_least w.name-item.is are in
      search rules
]
