use Rattle.std.proofs.Common.{pos}
use Rattle.trau_num.specs.Num.{add_of, entry}
use Rattle.trau_num.proofs.Fill.{Filled}
use Rattle.fr_long.proofs.encoder.reconstructed.Given as goal

abbrev pub invariant-loop-k : goal.invariant-loop-k
invariant-loop-k l = Filled (pos 0) (λ k. add_of (entry l.ep k) (entry l.dpp k)) l.dp 40 l.k
