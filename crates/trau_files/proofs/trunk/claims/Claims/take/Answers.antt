use Rattle.std.proofs.Common.{refl}
use Rattle.trau_files.proofs.Cases.{if_ok}
use Rattle.trau_files.proofs.trunk.claims.Claims.take.Goals as goal

pub returns-in-None-clause-free : goal.returns-in-None-clause-free
returns-in-None-clause-free g c = if_ok c.claim.result (λ writes disk. c.in-None.ensures.free refl writes)
