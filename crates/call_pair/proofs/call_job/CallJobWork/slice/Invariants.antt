use Rattle.std.proofs.Common.{◌≡◌, ◌+◌}
use Rattle.call_pair.specs.Phases.{periods_left, job_at_phase_end}
use Rattle.call_pair.proofs.call_job.CallJobWork.slice.Given as goal

-- the places left and those to be worked are those left at first
abbrev pub invariant-loop : goal.invariant-loop
invariant-loop l = record {
  left : periods_left l.self + l.counter ≡ periods_left l.fn.self;
  finish : job_at_phase_end l.self ≡ job_at_phase_end l.fn.self;
  call : l.self.io.call ≡ l.fn.self.io.call;
}
