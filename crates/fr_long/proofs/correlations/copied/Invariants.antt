use Rattle.std.proofs.Common.{ℕ, ◌<◌, pos, FitsSigned, w16}
use Rattle.trau_num.proofs.Fill.{Filled}
use Rattle.trau_num.specs.Num.{entry}
use Rattle.fr_long.proofs.correlations.copied.Given as goal

abbrev pub invariant-loop-k : goal.invariant-loop-k
invariant-loop-k l = record {
  filled : Filled (pos 0) (entry l.past) l.copy 120 l.k;
  words : (k : ℕ) → k < l.k → FitsSigned w16 (entry l.copy k);
}
