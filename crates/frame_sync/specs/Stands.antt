-- The past that the memory of the search stands for.
use Rattle.std.specs.Prelude.{◌≡◌, ℕ, List, [], ◌∷◌, length, replicate}
use Rattle.trau_bits.specs.Bits.{bits_of}
use Rattle.frame_sync.specs.Periods.{mode_after, ArePeriods}
use Rattle.frame_sync.specs.Memory.{SyncMemory}

-- the bits of the newest period, or zeros before the first
unfoldable pub last_bits : List (List ℕ) → List ℕ
last_bits [] = replicate 320 0
last_bits (octets ∷ past) = bits_of octets

-- the memory after all periods
abbrev pub memory_after : List (List ℕ) → SyncMemory
memory_after past = record { periods = length past; last = last_bits past; mode = mode_after past }

-- the memory is the one after these periods
pub record Stands (past : List (List ℕ)) (memory : SyncMemory) : Type 0 where
  pub periods : ArePeriods past
  pub after : memory ≡ memory_after past
