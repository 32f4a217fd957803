use Rattle.std.proofs.Common.{FitsSigned, w16}
use Rattle.std.proofs.lemmas.Int.{to_z-of_z}
use Rattle.trau_c.proofs.sender.trau_fr_send.Goals as goal

pub returns-clause-carried : goal.returns-clause-carried
returns-clause-carried c = let g : FitsSigned w16 c.args.level = c.ranges.level in simp to_z-of_z at c.send_octets.ensures.carried

pub returns-clause-history : goal.returns-clause-history
returns-clause-history c = let g : FitsSigned w16 c.args.level = c.ranges.level in simp to_z-of_z at c.send_octets.ensures.history
