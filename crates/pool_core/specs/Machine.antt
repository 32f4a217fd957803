-- The pool machine: jobs, deques, hands and places.
use Rattle.std.specs.Prelude.{◌≡◌, ◌<◌, ◌≤◌, IfSome, ℕ, ◌+◌, ◌%◌, min, Bool, true, false, not, ◌&&◌, if◌then◌else◌, ◌==◌, nat_lt, Option, Some, None, is_none}
use Rattle.std.specs.Prelude.{Result, Ok, Err, List, [], ◌∷◌, ◌++◌, length, map, filter, replicate}
use Rattle.std.specs.List.{range_with_len, sum_by}
use Rattle.std.proofs.Common.{get_or, set}
use Rattle.pool_core.specs.declared.step.PoolStep.{PoolStep}
use Rattle.pool_core.specs.declared.step.PoolStep.TheVariants.{Pop, Steal, Run, Push, Finish}
use Rattle.pool_core.specs.declared.step.NotLegal.{NotLegal}

-- The jobs by number: their lengths and places, in periods. The workers by number: their deques, the front first, and
-- their hands. The jobs that are done, the first done first.
pub record PoolState : Type 0 where
  pub lens : List ℕ
  pub places : List ℕ
  pub deques : List (List ℕ)
  pub hands : List (Option ℕ)
  pub finished : List ℕ

abbrev pub len : PoolState → ℕ → ℕ
len s job = get_or s.lens job 0

abbrev pub place : PoolState → ℕ → ℕ
place s job = get_or s.places job 0

abbrev pub deque : PoolState → ℕ → List ℕ
deque s worker = get_or s.deques worker []

abbrev pub hand : PoolState → ℕ → Option ℕ
hand s worker = get_or s.hands worker None

-- ---- the start

-- the jobs below n that a worker gets: those whose number, modulo the number of workers, is the worker's
abbrev pub dealt : ℕ → ℕ → ℕ → List ℕ
dealt workers n worker = filter (λ job. job % workers == worker) (range_with_len 0 n)

abbrev pub pool_start : ℕ → List ℕ → PoolState
pool_start workers lens = record {
  lens = lens;
  places = replicate (length lens) 0;
  deques = map (dealt workers (length lens)) (range_with_len 0 workers);
  hands = replicate workers None;
  finished = [];
}

-- ---- which steps are legal

abbrev pub is_worker : PoolState → ℕ → Bool
is_worker s worker = nat_lt worker (length s.hands)

abbrev pub is_empty : List ℕ → Bool
is_empty [] = true
is_empty (job ∷ jobs) = false

-- a job goes from the deque of a victim into the hand of a worker
abbrev pub can_take : PoolState → ℕ → ℕ → Bool
can_take s worker victim = is_none (hand s worker) && not (is_empty (deque s victim))

-- the hand holds a job whose place is below its length
abbrev pub is_under_way : PoolState → Option ℕ → Bool
is_under_way s None = false
is_under_way s (Some job) = nat_lt (place s job) (len s job)

-- the hand holds a job whose place is its length
abbrev pub is_complete : PoolState → Option ℕ → Bool
is_complete s None = false
is_complete s (Some job) = place s job == len s job

abbrev pub is_legal : PoolState → PoolStep → Bool
is_legal s (Pop w) = is_worker s w && can_take s w w
is_legal s (Steal t v) = is_worker s t && is_worker s v && not (t == v) && can_take s t v
is_legal s (Run w p) = is_worker s w && is_under_way s (hand s w) && nat_lt 0 p
is_legal s (Push w) = is_worker s w && is_under_way s (hand s w)
is_legal s (Finish w) = is_worker s w && is_complete s (hand s w)

-- ---- what they do

-- the front job of a deque goes into a hand
abbrev pub taken : PoolState → ℕ → ℕ → List ℕ → PoolState
taken s worker victim [] = s
taken s worker victim (job ∷ jobs) = record s { deques = set s.deques victim jobs; hands = set s.hands worker (Some job) }

-- the job in a hand goes on
abbrev pub run : PoolState → ℕ → Option ℕ → PoolState
run s periods None = s
run s periods (Some job) = record s { places = set s.places job (min (place s job + periods) (len s job)) }

-- the job in a worker's hand goes to the back of its deque
abbrev pub pushed : PoolState → ℕ → Option ℕ → PoolState
pushed s worker None = s
pushed s worker (Some job) = record s { deques = set s.deques worker (deque s worker ++ job ∷ []); hands = set s.hands worker None }

-- the job in a worker's hand is done
abbrev pub completed : PoolState → ℕ → Option ℕ → PoolState
completed s worker None = s
completed s worker (Some job) = record s { hands = set s.hands worker None; finished = s.finished ++ job ∷ [] }

abbrev pub moved : PoolState → PoolStep → PoolState
moved s (Pop w) = taken s w w (deque s w)
moved s (Steal t v) = taken s t v (deque s v)
moved s (Run w p) = run s p (hand s w)
moved s (Push w) = pushed s w (hand s w)
moved s (Finish w) = completed s w (hand s w)

-- A step that isn't legal changes nothing.
abbrev pub stepped : PoolState → PoolStep → PoolState
stepped s x = if is_legal s x then moved s x else s

abbrev pub answer_of : PoolState → PoolStep → Result (Unit {0}) NotLegal
answer_of s x = if is_legal s x then Ok tt else Err (record { step = x })

-- what follows from a legal pop or steal
pub record TakesJob (s : PoolState) (w v : ℕ) : Type 0 where
  pub worker : w < length s.hands
  pub victim : v < length s.hands
  pub free : hand s w ≡ None

-- ---- where a job is

-- a hand holds this job
abbrev pub holds_job : ℕ → Option ℕ → Bool
holds_job job None = false
holds_job job (Some other) = other == job

abbrev pub is_job : ℕ → ℕ → ℕ
is_job job other = if other == job then 1 else 0

-- how often a job is in a list of jobs
abbrev pub times_in : ℕ → List ℕ → ℕ
times_in job jobs = sum_by (is_job job) jobs

-- 1 if the hand holds this job, else 0
abbrev pub in_hand : ℕ → Option ℕ → ℕ
in_hand job None = 0
in_hand job (Some other) = is_job job other

-- how often a job is in all deques, in all hands, and among the jobs that are done
abbrev pub times_in_all : ℕ → PoolState → ℕ
times_in_all job s = sum_by (times_in job) s.deques + sum_by (in_hand job) s.hands + times_in job s.finished

-- how many jobs a hand holds
abbrev pub fills : Option ℕ → ℕ
fills None = 0
fills (Some job) = 1

-- what always holds of the machine
pub record IsState (s : PoolState) : Type 0 where
  pub placed : length s.places ≡ length s.lens
  pub staffed : length s.deques ≡ length s.hands
  pub standing : (w k : ℕ) → k < length (deque s w) → get_or (deque s w) k 0 < length s.lens
  pub holding : (w : ℕ) → IfSome (hand s w) (λ job. job < length s.lens)
  pub within : (job : ℕ) → place s job ≤ len s job
  pub once : (job : ℕ) → job < length s.lens → times_in_all job s ≡ 1
  pub all : sum_by length s.deques + sum_by fills s.hands + length s.finished ≡ length s.lens

-- all jobs are done
abbrev pub all_done : PoolState → Bool
all_done s = length s.finished == length s.lens
