use Rattle.std.proofs.Common.{◌≡◌, ◌*◌, ◌≤◌, pos, ◌+ℤ◌, ◌*ℤ◌, fold, map, unsigned_abs}
use Rattle.std.specs.List.{range_with_len}
use Rattle.fr_long.specs.GainCode.{energy_of}
use Rattle.fr_long.specs.Synthesis.{sample_before}
use Rattle.fr_long.proofs.sums.power.Given as goal

abbrev pub invariant-loop-k : goal.invariant-loop-k
invariant-loop-k l = record {
  value : l.half *ℤ pos 2 ≡ fold ◌+ℤ◌ (pos 0) (map (λ k. energy_of (sample_before l.earlier l.fn.lag k)) (range_with_len 0 l.k));
  bound : unsigned_abs l.half ≤ 16777216 * l.k;
}
