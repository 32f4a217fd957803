use Rattle.fr_short.specs.Reflection.{coefficients_at}
use Rattle.fr_short.proofs.BySection.{Sectioned}
use Rattle.fr_short.proofs.analysis.analyse.Given as goal

abbrev pub invariant-loop-i : goal.invariant-loop-i
invariant-loop-i l = Sectioned (coefficients_at l.old l.new) l.fn.us l.fn.s l.us l.s l.savs l.i
