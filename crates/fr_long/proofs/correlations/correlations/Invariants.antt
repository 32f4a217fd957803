use Rattle.std.proofs.Common.{◌≡◌, ℕ, ◌+◌, ◌*◌, ◌<◌, pos, get_or, length, FitsSigned, w32}
use Rattle.fr_long.specs.Lag.{correlation_of}
use Rattle.fr_long.proofs.correlations.correlations.Given as goal

abbrev pub invariant-loop-group : goal.invariant-loop-group
invariant-loop-group l = record {
  long : length l.all ≡ 81;
  longs : (k : ℕ) → FitsSigned w32 (get_or l.all k (pos 0));
  value : (k : ℕ) → k < 8 * l.group → k < 81 → get_or l.all k (pos 0) ≡ correlation_of l.wt l.earlier (40 + k);
}

abbrev pub invariant-loop-lane : goal.invariant-loop-lane
invariant-loop-lane l = record {
  long : length l.all ≡ 81;
  longs : (k : ℕ) → FitsSigned w32 (get_or l.all k (pos 0));
  value : (k : ℕ) → k < l.first + l.lane → get_or l.all k (pos 0) ≡ correlation_of l.wt l.earlier (40 + k);
}
