use Rattle.std.proofs.Common.{rules}
use Rattle.command_words.proofs.Matched.{has_fault}
use Rattle.command_words.proofs.options.matches_in.Goals as goal

pub returns-in-Ok-clause-matches : goal.returns-in-Ok-clause-matches
returns-in-Ok-clause-matches c = c.in-Ok.ensures.matches

pub returns-in-Ok-clause-taken : goal.returns-in-Ok-clause-taken
returns-in-Ok-clause-taken c = c.in-Ok.ensures.kinds

pub returns-in-Err-clause-words : goal.returns-in-Err-clause-words
returns-in-Err-clause-words c = λ reason words. cc

pub returns-in-Err-2-clause-words : goal.returns-in-Err-2-clause-words
returns-in-Err-2-clause-words c = λ reason words simple none. has_fault _ c.in-Err-2.error (λ memory. search rules) (c.in-Err-2.ensures.kinds simple) none
