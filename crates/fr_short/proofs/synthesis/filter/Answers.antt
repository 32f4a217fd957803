use Rattle.std.proofs.Common.{◌∙◌}
use Rattle.fr_short.proofs.Runs.{stepped_plain}
use Rattle.fr_short.proofs.synthesis.filter.Goals as goal

pub returns-clause-samples : goal.returns-clause-samples
returns-clause-samples c = c.filter_by.ensures.samples ∙ stepped_plain _ _
