use Rattle.std.proofs.Common.{get_or, pos, nat_lt, if◌then◌else◌}
use Rattle.trau_num.proofs.Fill.{Filled}
use Rattle.fr_short.specs.Reflection.{part_start}
use Rattle.fr_short.proofs.analysis.fill_part.Given as goal

abbrev pub invariant-loop-k : goal.invariant-loop-k
invariant-loop-k l = Filled (pos 0) (λ k. if nat_lt k (part_start l.fn.part) then get_or l.initial.rs k (pos 0) else l.fn.r) l.rs 40 l.k
