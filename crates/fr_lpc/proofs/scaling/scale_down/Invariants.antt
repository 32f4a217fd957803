use Rattle.std.proofs.Common.{◌≡◌, map, take, drop, ◌++◌}
use Rattle.fr_lpc.specs.Scaling.{scaled_sample}
use Rattle.fr_lpc.proofs.scaling.scale_down.Given as goal

abbrev pub invariant-loop-x : goal.invariant-loop-x
invariant-loop-x l = l.s ≡ map (scaled_sample l.scaling) (take l.x-index l.fn.s) ++ drop l.x-index l.fn.s
