use Rattle.std.proofs.Common.{◌≡◌, ◌≢◌, ℕ, length}
use Rattle.pool_run.specs.Joins.{IsShared}
use Rattle.pool_run.specs.Pool.{passes_of, all_given, all_obtained}
use Rattle.pool_run.proofs.joins.join_row.Given as goal

abbrev pub invariant-loop : goal.invariant-loop
invariant-loop g l = record {
  shared : IsShared g.W.Work.finish l.thieves l.members 0 0;
  given : (h : ℕ × g.row.W.Denot → ℕ) → all_given g.W.Work.finish h l.members ≡ all_given g.W.Work.finish h l.fn.members;
  obtained : (h : ℕ × g.row.W.Denot → ℕ) → all_obtained h l.members ≡ all_obtained h l.fn.members;
  others : (i : ℕ) → i ≢ l.j → passes_of l.members i ≡ passes_of l.fn.members i;
}

abbrev pub decreases-loop : goal.decreases-loop
decreases-loop g l = length (passes_of l.members l.j)
