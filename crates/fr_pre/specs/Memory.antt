-- What preprocessing keeps from sample to sample (GSM 06.10, sections 4.2.2 and 4.2.3).
use Rattle.std.specs.Prelude.{◌≡◌, ◌≤◌, ◌^◌, ℤ, pos, ◌-ℤ◌, ◌*ℤ◌, unsigned_abs}
use Rattle.std.proofs.Math.Decide.{dec_le}
use Rattle.std.proofs.Math.Bridge.{le_prop}
use Rattle.std.proofs.Math.Logic.{dite, dif_pos}
use Rattle.std.proofs.Common.{◌∙◌, zero-le}
use Rattle.fr_pre.specs.declared.state.PreState.{PreState}

-- z1, the last downscaled sample; L_z2, the sum of the offset compensation; mp, the last sample before preemphasis
pub record PreMemory : Type 0 where
  pub z1 : ℤ
  pub l_z2 : ℤ
  pub mp : ℤ

-- the memory in the home state
abbrev pub home_memory : PreMemory
home_memory = record { z1 = pos 0; l_z2 = pos 0; mp = pos 0 }

-- the numbers of a state
abbrev pub memory_of : PreState → PreMemory
memory_of state = record { z1 = state.z1; l_z2 = state.l_z2; mp = state.mp }

-- the home state
abbrev home_state : PreState
home_state = record { z1 = pos 0; l_z2 = pos 0; mp = pos 0; z1_bound = zero-le; offset_bound = zero-le }

-- the state with these numbers if they are in bounds, else the home state
unfoldable pub state_of : PreMemory → PreState
state_of memory =
    dite (dec_le (unsigned_abs memory.z1) (2 ^ 14))
    (λ z1. dite (dec_le (unsigned_abs (memory.l_z2 -ℤ memory.z1 *ℤ pos 32768)) (2 ^ 29))
    (λ offset. record { z1 = memory.z1; l_z2 = memory.l_z2; mp = memory.mp; z1_bound = z1; offset_bound = offset })
    (λ _. home_state))
    (λ _. home_state)

-- from the numbers of a state it gives the same state
pub same_state : (s : PreState) → state_of (memory_of s) ≡ s
unfolding state_of
same_state s = dif_pos (dec_le _ _) le_prop s.z1_bound _ _ ∙ dif_pos (dec_le _ _) le_prop s.offset_bound _ _
