-- The deques of all workers as one list of jobs with their workers; the jobs of each deque are in its order.
use Rattle.std.specs.Prelude.{◌≡◌, ◌≢◌, ℕ, ◌<◌, ◌≤◌, if◌then◌else◌, ◌==◌, Option, List, [], ◌∷◌, length, map}
use Rattle.std.specs.List.{range_with_len}
use Rattle.std.proofs.Common.{get_or}
use Rattle.pool_core.specs.declared.pool.Waiting.{Waiting}
use Rattle.pool_core.specs.Machine.{PoolState, IsState}

-- the jobs of a worker's deque
abbrev pub jobs_of : List Waiting → ℕ → List ℕ
jobs_of [] worker = []
jobs_of (w ∷ ws) worker = if w.worker == worker then w.job ∷ jobs_of ws worker else jobs_of ws worker

-- the front of a worker's deque: entry i is the worker's, and no entry before it is
pub record IsFront (ws : List Waiting) (worker i : ℕ) : Type 0 where
  pub inside : i < length ws
  pub before : (j : ℕ) (d : Waiting) → j < i → (get_or ws j d).worker ≢ worker
  pub here : (d : Waiting) → (get_or ws i d).worker ≡ worker

abbrev pub deques_of : List Waiting → ℕ → List (List ℕ)
deques_of ws workers = map (jobs_of ws) (range_with_len 0 workers)

abbrev pub pool_state : List ℕ → List ℕ → List Waiting → List (Option ℕ) → List ℕ → PoolState
pool_state lens places ws hands finished = record {
  lens = lens;
  places = places;
  deques = deques_of ws (length hands);
  hands = hands;
  finished = finished;
}

-- what always holds of the code's state
pub record IsPool (lens places : List ℕ) (ws : List Waiting) (hands : List (Option ℕ)) (finished : List ℕ) : Type 0 where
  pub workers : length hands ≤ 64
  pub owned : (k : ℕ) (d : Waiting) → k < length ws → (get_or ws k d).worker < length hands
  pub state : IsState (pool_state lens places ws hands finished)
