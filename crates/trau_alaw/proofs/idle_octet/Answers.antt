use Rattle.std.proofs.Common.{rules}
use Rattle.trau_alaw.proofs.idle_octet.Goals as goal

pub returns-in-Mu : goal.returns-in-Mu
returns-in-Mu c = search rules
