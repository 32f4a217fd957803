-- The room that is left in the deques after a change of one worker.
use Rattle.std.proofs.Common.{◌≡◌, ◌+◌, ◌<◌, ◌≤◌, ℕ, List, length, set, get_or, arith}
use Rattle.std.specs.Global.{Global}
use Rattle.trau_num.proofs.Lists.{each_set}
use Rattle.crossbeam_deque.specs.Handles.{worker_index, worker_capacity, SameWorker}
use Rattle.crossbeam_deque.specs.declared.handles.Worker.{Worker}
use Rattle.pool_run.specs.declared.deque.View.{View}
use Rattle.pool_run.specs.declared.deque.Task.{Task}
use Rattle.pool_run.specs.declared.deque.OneDeque.{OneDeque}
use Rattle.pool_run.specs.declared.member.Member.{Member}
use Rattle.pool_run.specs.Room.{RoomLeft}

module _ {W : Type 0} (taken most : ℕ) where
  -- of the worker at a place, whichever it is
  abbrev pub OwnLeft : ℕ → Member W → Type 0
  OwnLeft k m = (worker_index m.own ≤ taken) × (most ≤ worker_capacity m.own)

module _ {W : Type 0} (ms : List (Member W)) (at : ℕ) (r : Member W) (w : Worker (Task W) Global (View W) OneDeque) (there : at < length ms)
    (same : SameWorker (get_or ms at r).own w) where
  abbrev changed : Member W
  changed = record (get_or ms at r) { own = w }

  pub left_same : worker_index w ≡ worker_index (get_or ms at r).own → (taken most : ℕ) → RoomLeft taken most ms → RoomLeft taken most (set ms at changed)
  left_same is taken most left =
      let own = left at r there in each_set (OwnLeft taken most) ms at changed there ((omega (arith, own.0), omega (arith, own.1, same.3))) left

  pub left_more : worker_index w ≡ worker_index (get_or ms at r).own + 1 → (taken most : ℕ) → RoomLeft taken most ms →
      RoomLeft (taken + 1) most (set ms at changed)
  left_more is taken most left = let own = left at r there in
      each_set (OwnLeft (taken + 1) most) ms at changed there ((omega (arith, own.0), omega (arith, own.1, same.3)))
      (λ k m h. let old = left k m h in (omega (arith, old.0), old.1))
