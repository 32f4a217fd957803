use Rattle.std.proofs.Common.{map, to_z, w16}
use Rattle.fr_short.proofs.Behind.{Found}
use Rattle.fr_short.proofs.synthesis.in_turn.Given as goal

abbrev pub invariant-loop-i : goal.invariant-loop-i
invariant-loop-i l = Found l.fn.sample (map (to_z w16) l.fn.steps) l.words l.s l.i
