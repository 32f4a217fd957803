use Rattle.std.proofs.Common.{ℕ, ◌≡◌, ◌<◌, ◌≤◌, length, get_or}
use Rattle.std.specs.Prelude.{vec_capacity}
use Rattle.pool_core.specs.declared.pool.Waiting.{Waiting}
use Rattle.pool_core.specs.Machine.{dealt}
use Rattle.pool_core.specs.Waiting.{jobs_of}
use Rattle.pool_core.proofs.pool.deal.Given as goal

-- the jobs so far are dealt
abbrev pub invariant-loop-job : goal.invariant-loop-job
invariant-loop-job l = record {
  dealt : (w : ℕ) → jobs_of l.waiting.items w ≡ dealt l.workers l.job w;
  owned : (k : ℕ) (d : Waiting) → k < length l.waiting.items → (get_or l.waiting.items k d).worker < l.workers;
  count : length l.waiting.items ≡ l.job;
  room : l.jobs ≤ vec_capacity l.waiting;
}
