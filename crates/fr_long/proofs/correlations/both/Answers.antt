use Rattle.fr_long.proofs.Lanes.{pairs_of_two}
use Rattle.fr_long.proofs.correlations.both.Goals as goal

pub returns : goal.returns
returns c = pairs_of_two c.args.a c.args.b c.requires.length_a c.requires.length_b c.requires.small
