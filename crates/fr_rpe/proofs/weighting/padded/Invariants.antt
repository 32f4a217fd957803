use Rattle.std.proofs.Common.{◌≡◌, ℕ, ◌+◌, ◌<◌, pos, get_or, length}
use Rattle.std.specs.Prelude.{if◌then◌else◌, nat_lt}
use Rattle.fr_rpe.specs.Weighting.{sample_around}
use Rattle.fr_rpe.proofs.weighting.padded.Given as goal

abbrev pub invariant-loop-k : goal.invariant-loop-k
invariant-loop-k l = record {
  count : length l.padded ≡ 50;
  each : (p : ℕ) → p < 50 → get_or l.padded p (pos 0) ≡ (if nat_lt p (5 + l.k) then sample_around l.e p else pos 0);
}
