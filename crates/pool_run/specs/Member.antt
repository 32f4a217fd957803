-- One worker of a pool: what its steps keep.
use Rattle.std.specs.Prelude.{◌≡◌, ℕ, ◌+◌, ◌<◌, List, [], ◌∷◌, length, map, All, slice_index_or, Option, Some, None}
use Rattle.std.specs.Global.{Global}
use Rattle.crossbeam_deque.specs.Handles.{view, IsPassOf, Pass, worker_deque, stealer_deque, worker_flavor, stealer_flavor, worker_view}
use Rattle.crossbeam_deque.specs.declared.handles.Stealer.{Stealer}
use Rattle.crossbeam_deque.specs.declared.steal.Steal.{Steal}
use Rattle.crossbeam_deque.specs.declared.steal.Steal.TheVariants.{Empty, Success, Retry}
use Rattle.pool_run.specs.declared.deque.View.{View}
use Rattle.pool_run.specs.declared.deque.Task.{Task}
use Rattle.pool_run.specs.declared.deque.OneDeque.{OneDeque}
use Rattle.pool_run.specs.declared.member.Member.{Member}
use Rattle.trau_num.specs.Weights.{weigh}
use Rattle.pool_run.specs.Deque.{entry_of}

abbrev pub Thief : Type 0 → Type 0
Thief W = Stealer (Task W) Global (View W) OneDeque

abbrev pub Knower : Type 0 → Type 0
Knower W = Pass (Task W) (View W) Global

module _ {W : Type 0} where
  -- the pass is of this deque, which is first in first out, has one part and pushed nothing
  pub record IsPassFor (t : Thief W) (p : Knower W) : Type 0 where
    pub pass : IsPassOf (stealer_deque t) p
    pub fifo : stealer_flavor t ≡ 0
    pub part : (view p).parts ≡ 1
    pub pushed : (view p).pushed ≡ []

  -- the job is its own finished job
  abbrev pub IsEnded : (W → W) → Task W → Type 0
  IsEnded finish t = finish t.job.value ≡ t.job.value

  -- the worker can run: its deque is first in first out, it has a pass of each deque, and its list has finished jobs
  -- only
  pub record IsReady (finish : W → W) (thieves : List (Thief W)) (m : Member W) : Type 0 where
    pub fifo : worker_flavor m.own ≡ 0
    pub parts : 0 < (worker_view m.own).parts
    pub one_each : length m.passes.items ≡ length thieves
    pub each : (k : ℕ) (t : Thief W) (p : Knower W) → k < length thieves → IsPassFor (slice_index_or thieves k t) (slice_index_or m.passes.items k p)
    pub ended : All (IsEnded finish) m.done.items

  -- the job in hand
  abbrev pub held : (W → W) → Option (Task W) → List (ℕ × W)
  held finish None = []
  held finish (Some t) = entry_of finish t ∷ []

  -- what the worker pushed and finished
  abbrev pub given : (W → W) → (ℕ × W → ℕ) → Member W → ℕ
  given finish h m = weigh h (worker_view m.own).pushed + weigh h (map (entry_of finish) m.done.items)

  -- what it obtained from all deques
  abbrev pub obtained : (ℕ × W → ℕ) → Member W → ℕ
  obtained h m = weigh h (worker_view m.own).obtained + weigh (λ (p : Knower W). weigh h (view p).obtained) m.passes.items

  -- What a worker pushes, finishes and holds grows by what it obtains: no job is lost or added.
  pub record Moves (finish : W → W) (thieves : List (Thief W)) (old : Member W) (hand : Option (Task W)) (new : Member W)
      (next : Option (Task W)) : Type 0 where
    pub ready : IsReady finish thieves new
    pub deque : worker_deque new.own ≡ worker_deque old.own
    pub parts : (worker_view new.own).parts ≡ (worker_view old.own).parts
    pub balance : (h : ℕ × W → ℕ) →
        (given finish h new + weigh h (held finish next)) + obtained h old ≡ (given finish h old + weigh h (held finish hand)) + obtained h new

  -- the job that a steal, or a look through the deques, got
  abbrev pub stolen_job : Steal (Task W) → Option (Task W)
  stolen_job (Success t) = Some t
  stolen_job Empty = None
  stolen_job Retry = None
