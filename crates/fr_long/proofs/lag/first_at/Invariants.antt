use Rattle.std.proofs.Common.{◌≢◌, ℕ, ◌<◌}
use Rattle.trau_num.specs.Num.{entry}
use Rattle.fr_long.proofs.lag.first_at.Given as goal

abbrev pub invariant-loop-place : goal.invariant-loop-place
invariant-loop-place l = (k : ℕ) → k < l.place → entry l.correlations k ≢ l.value
