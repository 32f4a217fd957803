use Rattle.std.proofs.Common.{get_or, pos, ◌+◌}
use Rattle.trau_num.proofs.Fill.{Filled}
use Rattle.fr_pre.specs.Preprocessing.{preemphasised}
use Rattle.fr_pre.proofs.passes.preemphasise.Given as goal

abbrev pub invariant-loop-k : goal.invariant-loop-k
invariant-loop-k l = Filled (pos 0) (λ j. preemphasised (get_or l.sof j (pos 0)) (get_or l.sof (j + 1) (pos 0))) l.s 160 l.k
