use Rattle.std.proofs.Common.{ℕ, ◌<◌, ◌≢◌, get_or}
use Rattle.pool_core.specs.declared.pool.Waiting.{Waiting}
use Rattle.pool_core.proofs.pool.front.Given as goal

-- the entries so far are of other workers
abbrev pub invariant-loop-place : goal.invariant-loop-place
invariant-loop-place l = (j : ℕ) (d : Waiting) → j < l.place → (get_or l.waiting j d).worker ≢ l.worker
