use Rattle.std.proofs.Common.{sym, ◌∙◌}
use Rattle.command_words.proofs.run.read_save.Goals as goal

pub returns-then-has_periods-clause-ok : goal.returns-then-has_periods-clause-ok
returns-then-has_periods-clause-ok c = (c.in_ok-settings.ensures.ok, sym c.in_ok-settings.ensures.periods ∙ c.if-has_periods.true)

pub returns-else-has_periods-clause-ok : goal.returns-else-has_periods-clause-ok
returns-else-has_periods-clause-ok c = tt
