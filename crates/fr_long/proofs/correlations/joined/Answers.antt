use Rattle.fr_long.proofs.Rows.{four_and_four}
use Rattle.fr_long.proofs.correlations.joined.Goals as goal

pub returns : goal.returns
returns c = four_and_four c.args.a c.args.b c.requires.length_a c.requires.length_b c.requires.longs_a c.requires.longs_b
