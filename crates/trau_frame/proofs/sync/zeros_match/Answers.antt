use Rattle.std.proofs.Common.{rules}
use Rattle.trau_frame.proofs.sync.zeros_match.Goals as goal

pub loop-i-init : goal.loop-i-init
loop-i-init g c = search rules

pub returns : goal.returns
returns g c = search rules
