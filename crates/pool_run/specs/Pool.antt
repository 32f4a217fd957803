-- The workers of a pool together.
use Rattle.std.specs.Prelude.{◌≡◌, ℕ, zero, suc, ◌+◌, ◌<◌, List, [], ◌∷◌, length, All, slice_index_or}
use Rattle.std.specs.Global.{Box}
use Rattle.crossbeam_deque.specs.Handles.{worker_deque, stealer_deque, worker_flavor, worker_view}
use Rattle.pool_run.specs.declared.member.Member.{Member}
use Rattle.trau_num.specs.Weights.{weigh}
use Rattle.pool_run.specs.Deque.{IsCovered}
use Rattle.pool_run.specs.Member.{Thief, Knower, IsEnded, IsReady, given, obtained}

module _ {W : Type 0} where
  -- the jobs, numbered from n on, as the finished jobs that they become
  abbrev pub entries_from : (W → W) → ℕ → List (Box W) → List (ℕ × W)
  entries_from finish n [] = []
  entries_from finish n (b ∷ bs) = (n, finish b.value) ∷ entries_from finish (n + 1) bs

  -- the numbers go up by one from n
  abbrev pub IsNumbered : ℕ → List (ℕ × W) → Type 0
  IsNumbered n [] = Unit {0}
  IsNumbered n (e ∷ es) = (e.0 ≡ n) × IsNumbered (n + 1) es

  -- each worker has a deque, whose owner has all parts but one for each worker
  pub record IsPool (finish : W → W) (thieves : List (Thief W)) (members : List (Member W)) : Type 0 where
    pub pair : length members ≡ length thieves
    pub own : (k : ℕ) (t : Thief W) (m : Member W) → k < length members →
        worker_deque (slice_index_or members k m).own ≡ stealer_deque (slice_index_or thieves k t)
    pub ready : (k : ℕ) (m : Member W) → k < length members → IsReady finish thieves (slice_index_or members k m)
    pub parts : (k : ℕ) (m : Member W) → k < length members → (worker_view (slice_index_or members k m).own).parts + length thieves ≡ 1024

  -- what the workers pushed and finished, and what they obtained
  abbrev pub all_given : (W → W) → (ℕ × W → ℕ) → List (Member W) → ℕ
  all_given finish h members = weigh (given finish h) members

  abbrev pub all_obtained : (ℕ × W → ℕ) → List (Member W) → ℕ
  all_obtained h members = weigh (obtained h) members

  -- the passes of worker j
  abbrev pub passes_of : List (Member W) → ℕ → List (Knower W)
  passes_of [] j = []
  passes_of (m ∷ ms) zero = m.passes.items
  passes_of (m ∷ ms) (suc j) = passes_of ms j

  -- a worker whose deque's passes were joined, and whose own passes are gone
  pub record IsOwner (m : Member W) : Type 0 where
    pub fifo : worker_flavor m.own ≡ 0
    pub parts : (worker_view m.own).parts ≡ 1024
    pub joined : m.passes.items ≡ []

  -- such a worker, whose list has finished jobs only, and which obtained no entry more often than it was pushed
  pub record IsSettled (finish : W → W) (m : Member W) : Type 0 where
    pub owner : IsOwner m
    pub ended : All (IsEnded finish) m.done.items
    pub covered : IsCovered (worker_view m.own)
