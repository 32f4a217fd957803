use Rattle.std.proofs.Common.{pos, get_or, ◌+◌, ◌*◌}
use Rattle.trau_num.proofs.Fill.{Filled}
use Rattle.fr_rpe.proofs.selection.pulses_on_grid.Given as goal

abbrev pub invariant-loop-i : goal.invariant-loop-i
invariant-loop-i l = Filled (pos 0) (λ i. get_or l.x (l.mc + 3 * i) (pos 0)) l.pulses 13 l.i
