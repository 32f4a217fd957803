use Rattle.std.proofs.Common.{◌≡◌, map, take, vec_len, vec_capacity}
use Rattle.rx_handler.specs.State.{effective_fields}
use Rattle.call_pair.specs.Phases.{frames_in}
use Rattle.call_pair.proofs.call_job.CallJob.write_frames.Given as goal

-- the frames of the places so far are written
abbrev pub invariant-loop-k : goal.invariant-loop-k
invariant-loop-k l = record {
  written : map effective_fields l.frames.items ≡ take l.k (frames_in l.self.notes);
  number : vec_len l.frames ≡ l.k;
  capacity : vec_capacity l.frames ≡ vec_capacity l.initial.frames;
}
