use Rattle.std.proofs.Common.{◌≡◌, pos, fold, map, take}
use Rattle.std.specs.Int.{int_max}
use Rattle.trau_num.specs.Num.{abs_of}
use Rattle.fr_rpe.proofs.maximum.maximum.Given as goal

abbrev pub invariant-loop-i : goal.invariant-loop-i
invariant-loop-i l = l.most ≡ fold int_max (pos 0) (map abs_of (take l.i l.pulses))
