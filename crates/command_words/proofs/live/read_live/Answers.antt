use Rattle.std.proofs.Common.{refl, rules, map, string_bytes, sym}
use Rattle.command_words.specs.Live.{live_app}
use Rattle.command_words.proofs.Living.{same_live_texts}
use Rattle.command_words.proofs.Matched.{rows_read}
use Rattle.command_words.proofs.live.read_live.Goals as goal

pub returns-clause-ok : goal.returns-clause-ok
returns-clause-ok c =
    let read = rows_read live_app refl (map (λ w. string_bytes w) c.args.options.now) c.in_ok-matches.matches c.in_ok-matches.ensures.matches in
    record { taken = c.in_ok-matches.ensures.taken refl; gives = same_live_texts _ _ _ read c.in_ok-live_of.ensures.ok }

pub returns-in_err-matches-clause-words : goal.returns-in_err-matches-clause-words
returns-in_err-matches-clause-words c = λ reason words s are. c.matches_of.ensures.words reason (search rules) refl are.taken

pub returns-in_err-live_of-clause-words : goal.returns-in_err-live_of-clause-words
returns-in_err-live_of-clause-words c = λ reason words s are.
    let read = rows_read live_app refl (map (λ w. string_bytes w) c.args.options.now) c.in_ok-matches.matches c.in_ok-matches.ensures.matches in
    c.in_err-live_of.ensures.bad refl s (same_live_texts _ _ s (λ id. sym (read id)) are.gives)
