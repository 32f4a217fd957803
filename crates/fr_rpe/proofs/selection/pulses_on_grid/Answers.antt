use Rattle.std.proofs.Common.{pos, arith}
use Rattle.trau_num.proofs.Fill.{fill_all}
use Rattle.fr_rpe.specs.Selection.{pulses_on_grid}
use Rattle.fr_rpe.proofs.selection.pulses_on_grid.Goals as goal

pub returns : goal.returns
unfolding pulses_on_grid
returns c = fill_all (pos 0) _ c.loop-i.pulses 13 c.loop-i.i (omega arith) c.loop-i.invariant
