use Rattle.std.proofs.Common.{◌≡◌}
use Rattle.std.specs.List.{range_with_len, flat_map}
use Rattle.farm_drill.specs.Hostile.{hostile_octets}
use Rattle.farm_drill.proofs.hostile_line.hostile.Given as goal

abbrev pub invariant-loop-period : goal.invariant-loop-period
invariant-loop-period l = l.line.items ≡ flat_map (hostile_octets l.consists_of) (range_with_len 0 l.period)
