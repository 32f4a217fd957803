use Rattle.std.proofs.Common.{◌-◌, ◌*◌, get_or}
use Rattle.trau_num.proofs.Fill.{Filled}
use Rattle.rx_muting.specs.Muting.{muting_step}
use Rattle.rx_muting.proofs.levels.lowered.Given as goal

abbrev pub invariant-loop-j : goal.invariant-loop-j
invariant-loop-j l = Filled 0 (λ j. get_or l.xmaxc j 0 - muting_step * l.steps) l.maxima 4 l.j
