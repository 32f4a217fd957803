use Rattle.std.proofs.Common.{get_or}
use Rattle.trau_num.proofs.Fill.{Filled}
use Rattle.rx_noise.specs.Mix.{mixture}
use Rattle.rx_noise.proofs.approach.maxima.Given as goal

abbrev pub invariant-loop-j : goal.invariant-loop-j
invariant-loop-j l = Filled 0 (λ j. mixture l.i (get_or l.old j 0) (get_or l.new j 0)) l.xmaxc 4 l.j
