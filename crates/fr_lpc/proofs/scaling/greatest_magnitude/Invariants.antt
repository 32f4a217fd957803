use Rattle.std.proofs.Common.{◌≡◌, ℕ, ◌<◌, ◌≤◌, pos, map, take, fold, unsigned_abs}
use Rattle.std.specs.Int.{int_max}
use Rattle.trau_num.specs.Num.{abs_of, entry}
use Rattle.fr_lpc.proofs.scaling.greatest_magnitude.Given as goal

abbrev pub invariant-loop-k : goal.invariant-loop-k
invariant-loop-k l = record {
  most : l.most ≡ fold int_max (pos 0) (map abs_of (take l.k l.s));
  words : (i : ℕ) → i < l.k → unsigned_abs (entry l.s i) ≤ 32768;
}
