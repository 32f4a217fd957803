use Rattle.std.proofs.Common.{rules}
use Rattle.trau_files.proofs.trunk.bays.stands.Goals as goal

pub returns-in-Some-2-clause-stands : goal.returns-in-Some-2-clause-stands
returns-in-Some-2-clause-stands g c = search rules
