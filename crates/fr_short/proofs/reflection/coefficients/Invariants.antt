use Rattle.std.proofs.Common.{◌≤◌, unsigned_abs, pos}
use Rattle.trau_num.proofs.Fill.{Filled}
use Rattle.trau_num.specs.Num.{entry}
use Rattle.fr_short.specs.Reflection.{reflection_of, interpolated_ratio}
use Rattle.fr_short.proofs.Each.{Each}
use Rattle.fr_short.proofs.reflection.coefficients.Given as goal

abbrev pub invariant-loop-i : goal.invariant-loop-i
invariant-loop-i l = record {
  filled : Filled (pos 0) (λ k. reflection_of (interpolated_ratio l.part (entry l.old k) (entry l.new k))) l.rs 8 l.i;
  factors : Each (λ r. unsigned_abs r ≤ 32767) l.rs l.i;
}
