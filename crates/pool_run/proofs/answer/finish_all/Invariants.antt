use Rattle.std.proofs.Common.{◌≡◌, ◌+◌, ◌≤◌, ℕ, map, All, vec_len, vec_capacity}
use Rattle.trau_num.specs.Weights.{weigh}
use Rattle.pool_run.specs.Deque.{entry_of}
use Rattle.pool_run.specs.Member.{IsEnded}
use Rattle.pool_run.specs.Pool.{IsSettled, all_given, all_obtained}
use Rattle.pool_run.proofs.answer.finish_all.Given as goal

abbrev pub invariant-loop-member : goal.invariant-loop-member
invariant-loop-member g l = record {
  settled : All (IsSettled g.W.Work.finish) l.member-iterator.rest.items;
  ended : All (IsEnded g.W.Work.finish) l.finished.items;
  entries : (h : ℕ × g.row.W.Denot → ℕ) →
      weigh h (map (entry_of g.W.Work.finish) l.finished.items) + all_obtained h l.yielded
      ≡ weigh h (map (entry_of g.W.Work.finish) l.fn.finished.items) + all_given g.W.Work.finish h l.yielded;
  room : vec_len l.finished + all_given g.W.Work.finish (λ _. 1) l.member-iterator.rest.items ≤ all_obtained
      (λ _. 1) l.member-iterator.rest.items + vec_capacity l.fn.finished;
  capacity : vec_capacity l.fn.finished ≤ vec_capacity l.finished;
}
