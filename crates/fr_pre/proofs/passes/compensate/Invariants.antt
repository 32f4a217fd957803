use Rattle.std.proofs.Common.{get_or, pos, ◌+◌}
use Rattle.fr_pre.specs.Offsets.{without_offset}
use Rattle.fr_pre.proofs.Shifted.{Shifted}
use Rattle.fr_pre.proofs.passes.compensate.Given as goal

abbrev pub invariant-loop-k : goal.invariant-loop-k
invariant-loop-k l = Shifted l.before (λ j. without_offset (get_or l.so (j + 1) (pos 0)) (get_or l.offsets j (pos 0))) l.sof 160 l.k
