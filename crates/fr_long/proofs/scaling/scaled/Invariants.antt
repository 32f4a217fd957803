use Rattle.std.proofs.Common.{ℕ, ◌<◌, ◌≤◌, pos, unsigned_abs}
use Rattle.trau_num.specs.Num.{floor_shr, entry}
use Rattle.trau_num.proofs.Fill.{Filled}
use Rattle.fr_long.proofs.scaling.scaled.Given as goal

abbrev pub invariant-loop-k : goal.invariant-loop-k
invariant-loop-k l = record {
  filled : Filled (pos 0) (λ k. floor_shr (entry l.d k) l.fn.scal) l.wt 40 l.k;
  scaled : (k : ℕ) → k < l.k → unsigned_abs (entry l.wt k) ≤ 512;
}
