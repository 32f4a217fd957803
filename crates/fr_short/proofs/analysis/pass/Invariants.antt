use Rattle.fr_short.specs.AnalysisSection.{coefficient_at}
use Rattle.fr_short.proofs.Passes.{Passing}
use Rattle.fr_short.proofs.analysis.pass.Given as goal

abbrev pub invariant-loop-k : goal.invariant-loop-k
invariant-loop-k l = Passing (coefficient_at l.parts l.i) l.fn.first l.fn.ds l.fn.savs l.ds l.savs l.u l.k

abbrev pub invariant-loop-k-2 : goal.invariant-loop-k-2
invariant-loop-k-2 l = Passing (coefficient_at l.parts l.i) l.fn.first l.fn.ds l.fn.savs l.ds l.savs l.u l.k
