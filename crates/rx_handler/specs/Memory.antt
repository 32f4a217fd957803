-- What the receive side keeps: a state of the table (this project's profile, where GSM 06.11, 06.12 and 06.31 leave it
-- open), and the call's random source.
use Rattle.std.specs.Prelude.{ℕ}
use Rattle.trau_params.specs.Fields.{Fields}

-- Speech: the last good frame, and how many periods ago it came.
-- Noise: where the approach began, the latest descriptor, how many steps of the approach are done, how many descriptors
-- were missed since, and for how many periods the level has fallen. All counts stop at the numbers of this project's
-- profile.
pub data RxState : Type 0 where
  Quiet : RxState
  Speech : Fields → ℕ → RxState
  Noise : Fields → Fields → ℕ → ℕ → ℕ → RxState

-- the state of the table, and that of the random source
pub record RxMemory : Type 0 where
  pub state : RxState
  pub source : ℕ

-- the memory at the start of a call
abbrev pub home_memory : ℕ → RxMemory
home_memory call = record { state = Quiet; source = call }
