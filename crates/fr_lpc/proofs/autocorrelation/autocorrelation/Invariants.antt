use Rattle.std.proofs.Common.{◌≡◌, ◌-◌, ◌*◌, pos, ◌+ℤ◌, fold, map, length, to_z, w32}
use Rattle.std.specs.List.{range_with_len}
use Rattle.std.specs.Simd.Lanes.{Each1}
use Rattle.trau_lanes.proofs.LaneDots.{product_at, Within}
use Rattle.fr_lpc.proofs.autocorrelation.autocorrelation.Given as goal

abbrev pub invariant-loop-block : goal.invariant-loop-block
invariant-loop-block l = record {
  length_is : length l.halves ≡ 4;
  value : fold ◌+ℤ◌ (pos 0) (map (to_z w32) l.halves) ≡ fold ◌+ℤ◌ (pos 0) (map (product_at l.s l.past (8 - l.fn.k)) (range_with_len 0 (8 * l.block)));
  small : Each1 (Within (8388608 * l.block)) (map (to_z w32) l.halves);
}
