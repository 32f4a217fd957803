use Rattle.std.proofs.Common.{◌≡◌, ℕ, ◌<◌, pos, ◌≤ℤ◌, fold, map}
use Rattle.std.specs.Int.{int_max}
use Rattle.std.specs.List.{range_with_len}
use Rattle.trau_num.specs.Num.{abs_of, entry}
use Rattle.fr_long.proofs.scaling.peak.Given as goal

abbrev pub invariant-loop-k : goal.invariant-loop-k
invariant-loop-k l = record {
  value : l.peak ≡ fold int_max (pos 0) (map (λ k. abs_of (entry l.d k)) (range_with_len 0 l.k));
  not_negative : pos 0 ≤ℤ l.peak;
  greatest : (k : ℕ) → k < l.k → abs_of (entry l.d k) ≤ℤ l.peak;
}
