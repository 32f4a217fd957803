use Rattle.std.proofs.Common.{inr}
use Rattle.trau_files.proofs.trunk.claims.Claims.recorded.Goals as goal

pub returns-then-is_linked-clause-free : goal.returns-then-is_linked-clause-free
returns-then-is_linked-clause-free g c = λ none writes. inr (c.place_of.ensures.none none)
