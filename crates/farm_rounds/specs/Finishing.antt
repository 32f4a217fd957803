-- What a round gives, by the jobs of its calls: a job takes the octets that were read for a call, and for its partner
-- if it has one, and is run to its end.
use Rattle.std.specs.Prelude.{ℕ, Option, Some, None, unwrap_or}
use Rattle.call_pair.specs.Memory.{HalfMemory, Job, One, Two}
use Rattle.call_pair.specs.Jobs.{half_of, finished_job}
use Rattle.farm_rounds.specs.Calls.{kept_in, partner_in}
use Rattle.farm_rounds.specs.Rounds.{io_of}
use Rattle.farm_rounds.specs.RoundHistories.{portion_of}
use Rattle.farm_rounds.specs.Working.{RoundMemory}
use Rattle.farm_rounds.specs.Acts.{no_kept}

-- a call with the octets of its portion
abbrev pub half_filled : RoundMemory → ℕ → HalfMemory
half_filled r c = record {
  leg = (unwrap_or (kept_in r.farm.calls c) no_kept).call.leg;
  io = io_of (portion_of r.portions c);
}

-- the job of a call, with its partner if it has one
abbrev pub job_beside : RoundMemory → ℕ → Option ℕ → Job
job_beside r c None = One (half_filled r c)
job_beside r c (Some d) = Two (half_filled r c) (half_filled r d)

abbrev pub job_in : RoundMemory → ℕ → Job
job_in r c = job_beside r c (partner_in r.farm.calls c)

-- the call's half of the finished job
abbrev pub half_worked : RoundMemory → ℕ → HalfMemory
half_worked r c = half_of (finished_job (job_in r c)) c
