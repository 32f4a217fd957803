use Rattle.std.proofs.Common.{◌<◌, arith}
use Rattle.std.proofs.lemmas.List.Elements.{All-replicate}
use Rattle.fr_sides.proofs.uplink.data.Goals as goal

pub returns-in-3-default-clause-bits : goal.returns-in-3-default-clause-bits
returns-in-3-default-clause-bits c = All-replicate (λ b. b < 2) 260 1 (omega arith)

pub returns-in_default-clause-bits : goal.returns-in_default-clause-bits
returns-in_default-clause-bits c = All-replicate (λ b. b < 2) 260 0 (omega arith)
