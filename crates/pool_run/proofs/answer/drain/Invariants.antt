use Rattle.std.proofs.Common.{◌≡◌, ◌+◌, ◌-◌, ◌≤◌, ℕ, map, All, vec_len, vec_capacity}
use Rattle.crossbeam_deque.specs.Handles.{worker_flavor, worker_view}
use Rattle.trau_num.specs.Weights.{weigh}
use Rattle.pool_run.specs.Deque.{entry_of, IsCovered}
use Rattle.pool_run.specs.Member.{IsEnded}
use Rattle.pool_run.proofs.answer.drain.Given as goal

abbrev pub invariant-loop-task : goal.invariant-loop-task
invariant-loop-task g l = record {
  fifo : worker_flavor l.own ≡ 0;
  parts : (worker_view l.own).parts ≡ 1024;
  covered : IsCovered (worker_view l.own);
  pushed : (worker_view l.own).pushed ≡ (worker_view l.fn.own).pushed;
  ended : All (IsEnded g.W.Work.finish) l.finished.items;
  entries : (h : ℕ × g.row.W.Denot → ℕ) →
      weigh h (map (entry_of g.W.Work.finish) l.finished.items) + weigh h (worker_view l.fn.own).obtained
      ≡ weigh h (map (entry_of g.W.Work.finish) l.fn.finished.items) + weigh h (worker_view l.own).obtained;
  room : vec_len l.finished + weigh (λ _. 1) (worker_view l.own).pushed ≤ weigh (λ _. 1) (worker_view l.own).obtained + vec_capacity l.fn.finished;
  capacity : vec_capacity l.finished ≡ vec_capacity l.fn.finished;
}

-- what is left in the deque
abbrev pub decreases-loop-task : goal.decreases-loop-task
decreases-loop-task g l = weigh (λ _. 1) (worker_view l.own).pushed - weigh (λ _. 1) (worker_view l.own).obtained
