use Rattle.std.proofs.Common.{pos, ◌*ℤ◌, ◌^◌}
use Rattle.trau_num.specs.Num.{floor_shr, entry}
use Rattle.trau_num.proofs.Fill.{Filled}
use Rattle.fr_lpc.proofs.reflection.normalised.Given as goal

abbrev pub invariant-loop-i : goal.invariant-loop-i
invariant-loop-i l = Filled (pos 0) (λ k. floor_shr (entry l.acf k *ℤ pos (2 ^ l.shift)) 16) l.words 9 l.i
