use Rattle.std.proofs.Common.{ℕ, ◌<◌, ◌≤◌, pos, unsigned_abs, get_or}
use Rattle.trau_num.proofs.Fill.{Filled}
use Rattle.fr_lpc.specs.Autocorrelation.{autocorrelation_of}
use Rattle.fr_lpc.proofs.autocorrelation.autocorrelate.Given as goal

abbrev pub invariant-loop-k : goal.invariant-loop-k
invariant-loop-k l = record {
  filled : Filled (pos 0) (autocorrelation_of l.s) l.acf 9 l.k;
  bound : (j : ℕ) → j < l.k → unsigned_abs (get_or l.acf j (pos 0)) ≤ 1342177280;
}
