use Rattle.std.proofs.Common.{◌≡◌, ℕ, ◌+◌, ◌<◌, pos, get_or, length}
use Rattle.fr_lpc.proofs.autocorrelation.delayed.Given as goal

abbrev pub invariant-loop-k : goal.invariant-loop-k
invariant-loop-k l = record {
  long : length l.past ≡ 168;
  zeros : (i : ℕ) → i < 8 → get_or l.past i (pos 0) ≡ pos 0;
  samples : (i : ℕ) → i < l.k → get_or l.past (8 + i) (pos 0) ≡ get_or l.s i (pos 0);
}
