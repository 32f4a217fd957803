use Rattle.std.proofs.Common.{rules}
use Rattle.fr_pre.specs.Preprocessing.{preemphasised}
use Rattle.fr_pre.proofs.passes.preemphasised.Goals as goal

pub returns : goal.returns
unfolding preemphasised
returns c = search rules
