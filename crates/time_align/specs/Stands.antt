-- The past that the memory of time alignment stands for.
use Rattle.std.specs.Prelude.{◌≡◌, List}
use Rattle.time_align.specs.Shift.{latest_ask}
use Rattle.time_align.specs.Memory.{AlignMemory}
use Rattle.time_align.specs.History.{Event, is_frozen, fields_since}

-- the memory is the one after these events
pub record Stands (past : List Event) (memory : AlignMemory) : Type 0 where
  pub kept : memory.kept ≡ latest_ask (fields_since past)
  pub frozen : memory.frozen ≡ is_frozen past
