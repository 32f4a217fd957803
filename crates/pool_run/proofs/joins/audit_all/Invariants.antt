use Rattle.std.proofs.Common.{◌≡◌, ◌<◌, ℕ, All, get_or}
use Rattle.crossbeam_deque.specs.Handles.{worker_view}
use Rattle.pool_run.specs.declared.member.Member.{Member}
use Rattle.pool_run.specs.Deque.{IsCovered}
use Rattle.pool_run.specs.Member.{IsEnded}
use Rattle.pool_run.specs.Pool.{IsOwner, all_given, all_obtained}
use Rattle.pool_run.proofs.joins.audit_all.Given as goal

abbrev pub invariant-loop-k : goal.invariant-loop-k
invariant-loop-k g l = record {
  owners : All (λ (m : Member g.row.W.Denot). IsOwner m × All (IsEnded g.W.Work.finish) m.done.items) l.members;
  given : (h : ℕ × g.row.W.Denot → ℕ) → all_given g.W.Work.finish h l.members ≡ all_given g.W.Work.finish h l.fn.members;
  obtained : (h : ℕ × g.row.W.Denot → ℕ) → all_obtained h l.members ≡ all_obtained h l.fn.members;
  covered : (i : ℕ) (m : Member g.row.W.Denot) → i < l.k → IsCovered (worker_view (get_or l.members i m).own);
}
