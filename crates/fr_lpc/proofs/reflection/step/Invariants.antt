use Rattle.fr_lpc.specs.Reflection.{next_p, next_k}
use Rattle.fr_lpc.proofs.Over.{Over}
use Rattle.fr_lpc.proofs.reflection.step.Given as goal

abbrev pub invariant-loop-m : goal.invariant-loop-m
invariant-loop-m l = record {
  ps : Over (next_p l.left l.r l.fn.p l.fn.k) l.fn.p l.p l.m;
  ks : Over (next_k l.left l.r l.fn.p l.fn.k) l.fn.k l.k l.m;
}
