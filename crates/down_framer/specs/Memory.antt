-- The state of a framer, and its balance.
use Rattle.std.specs.Prelude.{◌≡◌, ℕ, ◌+◌, ◌*◌, ◌<◌, List, [], length, replicate}

-- the bits in store, the octets held, and the number of octets to skip
pub record FramerMemory : Type 0 where
  pub stored : List ℕ
  pub held : List ℕ
  pub to_skip : ℕ

-- before the first period: 320 ones in store
abbrev pub home_memory : FramerMemory
home_memory = record { stored = replicate 320 1; held = []; to_skip = 0 }

-- between periods no frame is left to be made
pub record IsBetweenPeriods (s : FramerMemory) : Type 0 where
  pub balance : length s.stored + 2 * length s.held ≡ 320 + 2 * s.to_skip
  pub short : length s.held < 160

-- within a period, after its octets were put
pub record IsWithinPeriod (s : FramerMemory) : Type 0 where
  pub balance : length s.stored + 2 * length s.held ≡ 640 + 2 * s.to_skip
  pub room : length s.held < 320
