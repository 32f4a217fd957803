use Rattle.std.proofs.Common.{◌≡◌, ◌≢◌, ◌<◌, ℕ, Some}
use Rattle.trau_files.specs.Claims.{MayShare, claim_at}
use Rattle.trau_files.specs.declared.trunk.claims.Claim.{Claim}
use Rattle.trau_files.proofs.trunk.claims.Claims.other.Given as goal

-- no line before this one has the file in a way that bars it
abbrev pub invariant-loop-other : goal.invariant-loop-other
invariant-loop-other g l = (k : ℕ) (b : Claim) → k < l.other → claim_at l.self-inside.of_lines.items k ≡ Some b → k ≢ l.place → MayShare l.claim b
