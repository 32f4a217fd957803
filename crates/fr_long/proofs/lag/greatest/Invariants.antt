use Rattle.std.proofs.Common.{map, to_z, w32}
use Rattle.fr_long.proofs.Tops.{AreTops, IsTopLane}
use Rattle.fr_long.proofs.lag.greatest.Given as goal

abbrev pub invariant-loop-group : goal.invariant-loop-group
invariant-loop-group l = AreTops l.correlations (map (to_z w32) l.tops) l.group

abbrev pub invariant-loop-lane : goal.invariant-loop-lane
invariant-loop-lane l = IsTopLane l.correlations l.tops l.top l.lane
