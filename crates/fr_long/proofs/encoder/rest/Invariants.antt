use Rattle.std.proofs.Common.{pos}
use Rattle.trau_num.specs.Num.{sub_of, entry}
use Rattle.trau_num.proofs.Fill.{Filled}
use Rattle.fr_long.proofs.encoder.rest.Given as goal

abbrev pub invariant-loop-k : goal.invariant-loop-k
invariant-loop-k l = Filled (pos 0) (λ k. sub_of (entry l.d k) (entry l.dpp k)) l.e 40 l.k
