use Rattle.std.proofs.Common.{refl, rules}
use Rattle.command_words.proofs.Asking.{no_asked, no_drill, no_live, no_resume, no_run, no_save}
use Rattle.command_words.proofs.words.parse_words.Goals as goal

pub returns-in-Some-clause-words : goal.returns-in-Some-clause-words
returns-in-Some-clause-words c = λ reason words. no_run _ _ c.in-Some.ensures.some (c.read_run.ensures.words reason (search rules))

pub returns-in-Some-options_of-clause-words : goal.returns-in-Some-options_of-clause-words
returns-in-Some-options_of-clause-words c = λ reason words. no_save _ _ c.in-Some-options_of.ensures.some (c.read_save.ensures.words reason (search rules))

pub returns-in-Some-options_of-2-clause-words : goal.returns-in-Some-options_of-2-clause-words
returns-in-Some-options_of-2-clause-words c = λ reason words. no_resume _ _ c.in-Some-options_of-2.ensures.some (c.read_run-in-Some-options_of-2.ensures.words reason (search rules))

pub returns-in_err-drilled-clause-words : goal.returns-in_err-drilled-clause-words
returns-in_err-drilled-clause-words c = λ reason words. no_drill _ _ c.in-Some-options_of-3.ensures.some (c.read_drill.ensures.words reason (search rules))

pub returns-in-Some-options_of-4-clause-words : goal.returns-in-Some-options_of-4-clause-words
returns-in-Some-options_of-4-clause-words c = λ reason words. no_live _ _ c.in-Some-options_of-4.ensures.some (c.read_live.ensures.words reason (search rules))

pub returns-in-None-clause-words : goal.returns-in-None-clause-words
returns-in-None-clause-words c = λ reason words.
    no_asked _ (c.in_default.ensures.none (search rules)) (c.in_default-options_of.ensures.none (search rules))
    (c.in_default-options_of-2.ensures.none (search rules))
    (c.in_default-options_of-3.ensures.none (search rules)) (c.in_default-options_of-4.ensures.none (search rules))
    (c.in_default-read_tool.ensures.none (search rules)) (c.in_default-read_follow.ensures.none (search rules))
    (c.in-None.ensures.none refl)
