use Rattle.fr_pre.proofs.Chain.{Chain}
use Rattle.fr_pre.proofs.passes.follow.Given as goal

abbrev pub invariant-loop-k : goal.invariant-loop-k
invariant-loop-k l = Chain l.initial.offset l.so l.offsets l.offset l.k
