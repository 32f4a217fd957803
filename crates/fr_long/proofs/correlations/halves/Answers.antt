use Rattle.fr_long.proofs.Rows.{halves_added}
use Rattle.fr_long.proofs.correlations.halves.Goals as goal

pub returns : goal.returns
returns c = halves_added c.args.lanes c.requires.length c.requires.small
