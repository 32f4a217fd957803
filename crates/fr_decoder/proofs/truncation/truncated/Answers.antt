use Rattle.std.proofs.Common.{rules}
use Rattle.fr_decoder.specs.Truncation.{truncated}
use Rattle.fr_decoder.proofs.truncation.truncated.Goals as goal

pub returns : goal.returns
unfolding truncated
returns c = search rules
