use Rattle.std.proofs.Common.{arith}
use Rattle.command_words.proofs.Following.{not_wanted}
use Rattle.command_words.proofs.follow.wanted.Goals as goal

pub returns-else-want-eq0-clause-none : goal.returns-else-want-eq0-clause-none
returns-else-want-eq0-clause-none c = λ none want wanted. not_wanted _ _ want c.in_ok-want.ensures.some (λ e. omega (arith, e, c.if-want-eq0.false)) wanted
