use Rattle.std.proofs.Common.{◌≡◌, ◌+◌, ℕ, length, vec_len}
use Rattle.trau_num.specs.Weights.{weigh}
use Rattle.pool_run.specs.Pool.{IsPool, all_given, all_obtained, entries_from}
use Rattle.pool_run.specs.Room.{RoomLeft}
use Rattle.pool_run.proofs.pool.place.Given as goal

abbrev pub invariant-loop-job : goal.invariant-loop-job
invariant-loop-job g l = record {
  pool : IsPool g.W.Work.finish l.thieves l.members;
  room : RoomLeft l.number (vec_len l.fn.jobs) l.members;
  left : l.number + length l.job-iterator.rest.items ≡ vec_len l.fn.jobs;
  number : l.number ≡ length l.yielded;
  given : (h : ℕ × g.row.W.Denot → ℕ) →
      all_given g.W.Work.finish h l.members ≡ all_given g.W.Work.finish h l.fn.members + weigh h (entries_from g.W.Work.finish 0 l.yielded);
  obtained : (h : ℕ × g.row.W.Denot → ℕ) → all_obtained h l.members ≡ all_obtained h l.fn.members;
}
