use Rattle.fr_pre.proofs.Shifted.{Downscaling}
use Rattle.fr_pre.proofs.passes.downscale.Given as goal

abbrev pub invariant-loop-k : goal.invariant-loop-k
invariant-loop-k l = Downscaling l.before l.x l.so l.k
