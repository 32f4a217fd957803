-- The room of a pool, and how it is made.
use Rattle.std.specs.Prelude.{◌≡◌, ℕ, ◌<◌, ◌≤◌, List, [], length, slice_index_or}
use Rattle.crossbeam_deque.specs.Handles.{view, worker_flavor, stealer_flavor, worker_view, worker_index, worker_capacity}
use Rattle.pool_run.specs.declared.member.Member.{Member}
use Rattle.trau_num.specs.Weights.{weigh}
use Rattle.pool_run.specs.Deque.{knows}
use Rattle.pool_run.specs.Member.{Thief, Knower, IsPassFor}
use Rattle.pool_run.specs.Pool.{IsPool, all_given, all_obtained}
use Rattle.pool_run.specs.Joins.{IsShared}

module _ {W : Type 0} where
  -- no deque has taken in more than `taken` jobs, and each has room for `most`
  abbrev pub RoomLeft : ℕ → ℕ → List (Member W) → Type 0
  RoomLeft taken most members = (k : ℕ) (m : Member W) → k < length members →
      (worker_index (slice_index_or members k m).own ≤ taken) × (most ≤ worker_capacity (slice_index_or members k m).own)

  -- a pool whose deques have room for `most` jobs, and in which nothing was pushed, finished or obtained
  pub record IsRoom (finish : W → W) (most : ℕ) (thieves : List (Thief W)) (members : List (Member W)) : Type 0 where
    pub pool : IsPool finish thieves members
    pub some : 0 < length members
    pub given : (h : ℕ × W → ℕ) → all_given finish h members ≡ 0
    pub obtained : (h : ℕ × W → ℕ) → all_obtained h members ≡ 0
    pub left : RoomLeft 0 most members

  -- a worker with an empty deque and no passes
  pub record IsNew (most : ℕ) (m : Member W) : Type 0 where
    pub fifo : worker_flavor m.own ≡ 0
    pub view : worker_view m.own ≡ knows 1024 [] []
    pub passes : m.passes.items ≡ []
    pub done : m.done.items ≡ []
    pub left : (worker_index m.own ≡ 0) × (most ≤ worker_capacity m.own)

  -- new passes of the first deques
  pub record IsRow (thieves : List (Thief W)) (row : List (Knower W)) : Type 0 where
    pub each : (k : ℕ) (t : Thief W) (p : Knower W) → k < length row → IsPassFor (slice_index_or thieves k t) (slice_index_or row k p)
    pub obtained : (h : ℕ × W → ℕ) → weigh (λ (p : Knower W). weigh h (view p).obtained) row ≡ 0

  -- Of each of the first deques one more pass is in hand; nothing was pushed, finished or obtained.
  pub record IsUnused (finish : W → W) (thieves : List (Thief W)) (members : List (Member W)) (hands : ℕ) : Type 0 where
    pub shared : IsShared finish thieves members hands 0
    pub fifo : (k : ℕ) (t : Thief W) → k < length thieves → stealer_flavor (slice_index_or thieves k t) ≡ 0
    pub given : (h : ℕ × W → ℕ) → all_given finish h members ≡ 0
    pub obtained : (h : ℕ × W → ℕ) → all_obtained h members ≡ 0
