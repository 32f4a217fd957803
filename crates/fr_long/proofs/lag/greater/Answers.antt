use Rattle.fr_long.proofs.Tops.{lanes_max}
use Rattle.fr_long.proofs.lag.greater.Goals as goal

pub returns : goal.returns
returns c = lanes_max c.args.a c.args.b c.requires.longs_a c.requires.longs_b
