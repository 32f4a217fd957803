use Rattle.std.proofs.Common.{refl, rules, map, string_bytes, sym, ◌∙◌, ap, codes, is_some}
use Rattle.command_words.specs.Run.{run_app}
use Rattle.command_words.proofs.Matched.{same_texts, rows_read}
use Rattle.command_words.proofs.run.read_options.Goals as goal

pub returns-clause-ok : goal.returns-clause-ok
returns-clause-ok c =
    let read = rows_read run_app refl (map (λ w. string_bytes w) c.args.options.now) c.in_ok-matches.matches c.in_ok-matches.ensures.matches in
    record { taken = c.in_ok-matches.ensures.taken refl; gives = same_texts _ _ _ _ _ read c.in_ok-options_of.ensures.ok }

pub returns-in_err-matches-clause-words : goal.returns-in_err-matches-clause-words
returns-in_err-matches-clause-words c = λ reason words s are. c.matches_of.ensures.words reason (search rules) refl are.taken

pub returns-in_err-options_of-clause-words : goal.returns-in_err-options_of-clause-words
returns-in_err-options_of-clause-words c = λ reason words s are.
    let read = rows_read run_app refl (map (λ w. string_bytes w) c.args.options.now) c.in_ok-matches.matches c.in_ok-matches.ensures.matches in
    c.in_err-options_of.ensures.bad refl s (same_texts _ _ _ _ s (λ id. sym (read id)) are.gives)

pub returns-clause-periods : goal.returns-clause-periods
returns-clause-periods c =
    let read = rows_read run_app refl (map (λ w. string_bytes w) c.args.options.now) c.in_ok-matches.matches c.in_ok-matches.ensures.matches in
    c.in_ok-options_of.ensures.periods ∙ ap is_some (read (codes "periods"))
