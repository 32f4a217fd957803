-- A job from its start to its end.
use Rattle.std.specs.Prelude.{ℕ, zero, suc, max, ◌==◌, if◌then◌else◌}
use Rattle.call_pair.specs.Memory.{HalfMemory, places_left, Job, One, Two}
use Rattle.call_pair.specs.Turn.{job_place}

-- the remaining places; of two halves, those of the longer
abbrev pub job_left : Job → ℕ
job_left (One h) = places_left h.io
job_left (Two a b) = max (places_left a.io) (places_left b.io)

-- the job after n places
abbrev pub after_job_places : ℕ → Job → Job
after_job_places zero job = job
after_job_places (suc n) job = after_job_places n (job_place job)

-- the finished job: after all remaining places
abbrev pub finished_job : Job → Job
finished_job job = after_job_places (job_left job) job

-- ---- its calls

-- the half of this call, which is one of the job's
abbrev pub half_of : Job → ℕ → HalfMemory
half_of (One h) call = h
half_of (Two a b) call = if a.io.call == call then a else b
