-- What is known of each octet of each period. Periods are numbers of 32 bits, and go on from the greatest to 0.
use Rattle.std.specs.Prelude.{◌⊎◌, ℕ, ◌+◌, ◌-◌, ◌%◌, ◌^◌, ◌≤◌, ◌≢◌, Bool, nat_le, if◌then◌else◌, ◌==◌, Option, List, [], slice_index_or}
use Rattle.rtp_buffer.specs.Octets.{held, has_come}
use Rattle.rtp_buffer.specs.declared.octet.Octet.{Octet}
use Rattle.rtp_buffer.specs.declared.octet.Octet.TheVariants.{Missing}
use Rattle.rtp_buffer.specs.declared.slot.Slot.{Slot}

-- a period of which nothing came, and a slot of one
abbrev pub no_octets : List Octet
no_octets = []

abbrev pub no_slot : {N : ℕ} → Slot N
no_slot = record { period = 0; octets = no_octets }

-- the octets of a period, and one of them, if a slot may have them
abbrev pub row_in : {N : ℕ} → Slot N → ℕ → List Octet
row_in slot period = if slot.period == period then slot.octets else no_octets

abbrev pub in_slot : {N : ℕ} → Slot N → ℕ → ℕ → Octet
in_slot slot period k = slice_index_or (row_in slot period) k Missing

-- a period has one slot of 256
abbrev pub slot_of : ℕ → ℕ
slot_of period = period % 256

-- **the k-th octet of a period**
abbrev pub place : {N : ℕ} → List (Slot N) → ℕ → ℕ → Octet
place slots period k = in_slot (slice_index_or slots (slot_of period) no_slot) period k

-- what waits there, and whether it came
abbrev pub content : {N : ℕ} → List (Slot N) → ℕ → ℕ → Option ℕ
content slots period k = held (place slots period k)

abbrev pub known : {N : ℕ} → List (Slot N) → ℕ → ℕ → Bool
known slots period k = has_come (place slots period k)

-- whether a period is before another one, the nearer way round
abbrev pub is_before : ℕ → ℕ → Bool
is_before period first = nat_le (2 ^ 31) ((period + (2 ^ 32 - first)) % 2 ^ 32)

-- another period that is at most 128 away, the one way round or the other
pub record IsNear (period other : ℕ) : Type 0 where
  pub fits : period ≤ 2 ^ 32 - 1
  pub other_fits : other ≤ 2 ^ 32 - 1
  pub differs : other ≢ period
  pub near : ((2 ^ 32 + other - period) % 2 ^ 32 ≤ 128) ⊎ ((2 ^ 32 + period - other) % 2 ^ 32 ≤ 128)
