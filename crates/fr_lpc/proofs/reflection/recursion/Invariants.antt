use Rattle.std.proofs.Common.{◌≡◌, ℕ, ◌-◌, ◌≤◌, pos, get_or, length, take, ◌++◌}
use Rattle.fr_lpc.specs.Reflection.{coefficients_from}
use Rattle.fr_lpc.proofs.reflection.recursion.Given as goal

abbrev pub invariant-loop-n : goal.invariant-loop-n
invariant-loop-n l = record {
  count : length l.rs ≡ 8;
  zeros : (j : ℕ) → l.n ≤ j → get_or l.rs j (pos 0) ≡ pos 0;
  whole : take l.n l.rs ++ coefficients_from (8 - l.n) l.p l.k ≡ coefficients_from 8 l.acf l.acf;
}
