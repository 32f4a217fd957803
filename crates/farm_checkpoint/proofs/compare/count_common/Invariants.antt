use Rattle.std.proofs.Common.{◌≡◌, ◌≤◌, ◌-◌, take, length}
use Rattle.farm_checkpoint.proofs.compare.count_common.Given as goal

abbrev pub invariant-loop-common : goal.invariant-loop-common
invariant-loop-common l = record {
  one_within : l.common ≤ length l.one;
  other_within : l.common ≤ length l.other;
  same : take l.common l.one ≡ take l.common l.other;
}

abbrev pub decreases-loop-common : goal.decreases-loop-common
decreases-loop-common l = length l.one - l.common
