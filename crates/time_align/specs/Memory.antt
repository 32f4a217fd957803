-- What time alignment keeps (this project's profile, modelled on GSM 08.60).
use Rattle.std.specs.Prelude.{ℤ, Bool, false, Option, None}

-- the shift that was asked for and that no frame has adopted yet, and whether shifts are frozen
pub record AlignMemory : Type 0 where
  pub kept : Option ℤ
  pub frozen : Bool

-- before the first operation
abbrev pub home_memory : AlignMemory
home_memory = record { kept = None; frozen = false }
