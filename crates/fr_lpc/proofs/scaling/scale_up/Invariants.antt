use Rattle.std.proofs.Common.{◌≡◌, map, take, drop, ◌++◌}
use Rattle.trau_num.specs.Num.{shl_of}
use Rattle.fr_lpc.proofs.scaling.scale_up.Given as goal

abbrev pub invariant-loop-x : goal.invariant-loop-x
invariant-loop-x l = l.s ≡ map (λ x. shl_of x l.scaling) (take l.x-index l.fn.s) ++ drop l.x-index l.fn.s
