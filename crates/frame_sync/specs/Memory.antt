-- What the search keeps from period to period.
use Rattle.std.specs.Prelude.{ℕ, ◌+◌, ◌≤◌, ◌<◌, List, replicate}
use Rattle.frame_sync.specs.declared.yields.Mode.{Mode}
use Rattle.frame_sync.specs.declared.yields.Mode.TheVariants.{Hunting, Locked}
use Rattle.frame_sync.specs.Yields.{misses_to_hunt}

-- the number of periods so far, the bits of the last one, and the mode
pub record SyncMemory : Type 0 where
  pub periods : ℕ
  pub last : List ℕ
  pub mode : Mode

-- the memory before the first period
abbrev pub home_memory : SyncMemory
home_memory = record { periods = 0; last = replicate 320 0; mode = Hunting 0 }

-- the place from which the search hunts, or at which a frame is due
abbrev pub low_of : Mode → ℕ
low_of (Hunting low) = low
low_of (Locked next misses) = next

-- the next period begins before this place: the end of the frame that is due or, if the search hunts, `base` + 1, which
-- sets no limit
abbrev pub high_of : ℕ → Mode → ℕ
high_of base (Hunting low) = base + 1
high_of base (Locked next misses) = next + 320

-- the misses in a row so far
abbrev pub misses_of : Mode → ℕ
misses_of (Hunting low) = 0
misses_of (Locked next misses) = misses

-- the mode fits a line of `base` bits so far: the search hunts from `base` or an earlier place on, or the frame that is
-- due begins at `base` or before and ends in the next period; the misses haven't ended the lock
abbrev pub IsNear : ℕ → Mode → Type 0
IsNear base mode = (low_of mode ≤ base) × (base < high_of base mode) × (misses_of mode < misses_to_hunt)
