use Rattle.fr_short.proofs.Behind.{guess_words}
use Rattle.fr_short.proofs.synthesis.guess.Goals as goal

pub returns : goal.returns
returns c = guess_words _ c.args.steps c.requires
