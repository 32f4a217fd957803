use Rattle.std.proofs.Common.{refl}
use Rattle.trau_files.proofs.Apart.{apart_after}
use Rattle.trau_files.proofs.trunk.claims.Claims.claim.Goals as goal

pub invariant_of-self : goal.invariant_of-self
invariant_of-self g c =
    let free = c.in-None.ensures.free refl in
    (c.self.invariant.0, apart_after _ c.line_index-place.result c.args.claim c.self.invariant.1 (rw c.self.view_is free))

pub returns-in-None-clause-apart : goal.returns-in-None-clause-apart
returns-in-None-clause-apart g c =
    let free = c.in-None.ensures.free refl in
    apart_after _ c.line_index-place.result c.args.claim c.self.invariant.1 (rw c.self.view_is free)
