-- The joins of the passes, one after another.
use Rattle.std.specs.Prelude.{◌≡◌, ◌≢◌, ℕ, zero, suc, ◌+◌, ◌<◌, ◌≤◌, List, length, All, slice_index_or}
use Rattle.crossbeam_deque.specs.Handles.{view, worker_deque, stealer_deque, worker_flavor, worker_view}
use Rattle.pool_run.specs.declared.member.Member.{Member}
use Rattle.trau_num.specs.Weights.{weigh}
use Rattle.pool_run.specs.Member.{Thief, Knower, IsPassFor, IsEnded}
use Rattle.pool_run.specs.Pool.{all_given, all_obtained, passes_of}

-- 1 if i is below n, else 0
abbrev pub below : ℕ → ℕ → ℕ
below i zero = 0
below zero (suc n) = 1
below (suc i) (suc n) = below i n

module _ {W : Type 0} where
  -- how many workers have a pass of deque i
  abbrev pub rows_at : ℕ → List (Member W) → ℕ
  rows_at i members = weigh (λ (m : Member W). below i (length m.passes.items)) members

  -- a worker that has passes of the first deques
  pub record HasRow (finish : W → W) (thieves : List (Thief W)) (m : Member W) : Type 0 where
    pub fifo : worker_flavor m.own ≡ 0
    pub parts : 0 < (worker_view m.own).parts
    pub few : length m.passes.items ≤ length thieves
    pub each : (k : ℕ) (t : Thief W) (p : Knower W) → k < length m.passes.items → IsPassFor (slice_index_or thieves k t) (slice_index_or m.passes.items k p)
    pub ended : All (IsEnded finish) m.done.items

  -- Each deque's 1024 parts are its owner's and those of the passes of the workers, one each, and of passes in hand.
  -- By `more` and `less`, in hand is one pass of deque k (k + 1 and k), one pass of each of the first k deques
  -- (k and 0), or none (0 and 0).
  pub record IsShared (finish : W → W) (thieves : List (Thief W)) (members : List (Member W)) (more less : ℕ) : Type 0 where
    pub pair : length members ≡ length thieves
    pub own : (k : ℕ) (t : Thief W) (m : Member W) → k < length members →
        worker_deque (slice_index_or members k m).own ≡ stealer_deque (slice_index_or thieves k t)
    pub rows : (k : ℕ) (m : Member W) → k < length members → HasRow finish thieves (slice_index_or members k m)
    pub parts : (k : ℕ) (m : Member W) → k < length members →
        (worker_view (slice_index_or members k m).own).parts + rows_at k members + below k more ≡ 1024 + below k less

  -- p, the last pass of worker j, is in hand
  pub record IsLastTaken (finish : W → W) (thieves : List (Thief W)) (old new : List (Member W)) (j : ℕ) (p : Knower W) : Type 0 where
    pub shared : IsShared finish thieves new (length (passes_of new j) + 1) (length (passes_of new j))
    pub there : length (passes_of new j) < length new
    pub is_for : (t : Thief W) → IsPassFor (slice_index_or thieves (length (passes_of new j)) t) p
    pub given : (h : ℕ × W → ℕ) → all_given finish h new ≡ all_given finish h old
    pub obtained : (h : ℕ × W → ℕ) → all_obtained h new + weigh h (view p).obtained ≡ all_obtained h old
    pub mine : length (passes_of new j) + 1 ≡ length (passes_of old j)
    pub others : (i : ℕ) → i ≢ j → passes_of new i ≡ passes_of old i
