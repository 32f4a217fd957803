use Rattle.fr_long.proofs.Rows.{pairs_of_sixteen}
use Rattle.fr_long.proofs.correlations.neighbours_of_16.Goals as goal

pub returns : goal.returns
returns c = pairs_of_sixteen c.args.lanes c.requires.length c.requires.small
