use Rattle.std.proofs.Common.{rules}
use Rattle.trau_frame.proofs.sync.ones_match.Goals as goal

pub returns : goal.returns
returns g c = search rules
