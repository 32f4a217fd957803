use Rattle.std.proofs.Common.{◌≡◌, map, length, vec_len, vec_capacity}
use Rattle.pool_run.specs.declared.deque.Task.{Task}
use Rattle.pool_run.proofs.answer.strip.Given as goal

abbrev pub invariant-loop-task : goal.invariant-loop-task
invariant-loop-task g l = record {
  jobs : l.answer.items ≡ map (λ (t : Task g.row.W.Denot). t.job) l.yielded;
  len : vec_len l.answer ≡ length l.yielded;
  room : vec_capacity l.answer ≡ vec_capacity l.initial.answer;
}
