-- What always holds of a call's job.
use Rattle.std.specs.Prelude.{◌≡◌, ℕ, ◌+◌, ◌≤◌, true, length}
use Rattle.call_pair.specs.Memory.{places_left}
use Rattle.call_pair.specs.Phases.{CallMemory}
use Rattle.call_pair.specs.declared.call_job.Phase.{Phase}
use Rattle.call_pair.specs.declared.call_job.Phase.TheVariants.{First, Second}

-- In the first phase there is a note of each finished place, with room for the notes of the others and for the
-- partner's frames. The periods of the leg and the remaining places are together at most 4,294,967,295.
pub record IsFirst (j : CallMemory) (capacity heard : ℕ) : Type 0 where
  pub periods : j.up.search.periods + places_left j.io ≤ 4294967295
  pub notes : length j.notes ≡ j.io.done
  pub room : j.io.given ≤ capacity
  pub hears : j.bridge_end ≤ heard

-- In the second phase there is a note of each place, and the partner's frame of each place before the bridge's end.
-- Past that end the bridge is off.
pub record IsSecond (j : CallMemory) : Type 0 where
  pub notes : length j.notes ≡ j.io.given
  pub partner : j.bridge_end ≤ length j.partner
  pub over : j.down.bridged ≡ true → j.io.done ≤ j.bridge_end

abbrev pub IsJob : Phase → CallMemory → ℕ → ℕ → Type 0
IsJob First j capacity heard = IsFirst j capacity heard
IsJob Second j capacity heard = IsSecond j
