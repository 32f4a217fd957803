use Rattle.std.proofs.Common.{◌≡◌, ◌<◌, ℕ, length}
use Rattle.pool_run.specs.Joins.{IsShared}
use Rattle.pool_run.specs.Pool.{passes_of, all_given, all_obtained}
use Rattle.pool_run.proofs.joins.join_all.Given as goal

abbrev pub invariant-loop-j : goal.invariant-loop-j
invariant-loop-j g l = record {
  shared : IsShared g.W.Work.finish l.thieves l.members 0 0;
  given : (h : ℕ × g.row.W.Denot → ℕ) → all_given g.W.Work.finish h l.members ≡ all_given g.W.Work.finish h l.fn.members;
  obtained : (h : ℕ × g.row.W.Denot → ℕ) → all_obtained h l.members ≡ all_obtained h l.fn.members;
  joined : (i : ℕ) → i < l.j → length (passes_of l.members i) ≡ 0;
}
