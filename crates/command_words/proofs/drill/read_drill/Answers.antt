use Rattle.std.proofs.Common.{refl, rules, map, string_bytes, sym}
use Rattle.command_words.specs.Drill.{drill_app}
use Rattle.command_words.proofs.Matched.{same_drill_texts, rows_read}
use Rattle.command_words.proofs.drill.read_drill.Goals as goal

pub returns-clause-ok : goal.returns-clause-ok
returns-clause-ok c =
    let read = rows_read drill_app refl (map (λ w. string_bytes w) c.args.options.now) c.in_ok-matches.matches c.in_ok-matches.ensures.matches in
    record { taken = c.in_ok-matches.ensures.taken refl; gives = same_drill_texts _ _ _ _ _ read c.in_ok-drilled_of.ensures.ok }

pub returns-in_err-matches-clause-words : goal.returns-in_err-matches-clause-words
returns-in_err-matches-clause-words c = λ reason words seed calls s are. c.matches_of.ensures.words reason (search rules) refl are.taken

pub returns-in_err-drilled_of-clause-words : goal.returns-in_err-drilled_of-clause-words
returns-in_err-drilled_of-clause-words c = λ reason words seed calls s are.
    let read = rows_read drill_app refl (map (λ w. string_bytes w) c.args.options.now) c.in_ok-matches.matches c.in_ok-matches.ensures.matches in
    c.in_err-drilled_of.ensures.bad refl seed calls s (same_drill_texts _ _ seed calls s (λ id. sym (read id)) are.gives)
