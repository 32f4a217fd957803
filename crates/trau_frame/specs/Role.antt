-- The role of each of the 320 places of a frame (GSM 08.60).
use Rattle.std.specs.Prelude.{ℕ, ◌+◌, ◌-◌, ◌*◌, ◌/◌, ◌%◌, ◌<◌, ◌≤◌, if◌then◌else◌, nat_lt, nat_le, ◌==◌, ◌&&◌, List, slice_index}

-- a sync bit of this value, control bit C1 to C21, data bit D1 to D260, or time bit T1 to T4
pub data Role : Type 0 where
  Sync : ℕ → Role
  Control : ℕ → Role
  Data : ℕ → Role
  Time : ℕ → Role

-- the role of place i: sixteen sync zeros, then a sync one at every sixteenth place. The first of these ones is
-- followed by C1 to C15, the others by data bits, fifteen to a row. The last row has the last five data bits, C16 to
-- C21 and T1 to T4.
unfoldable pub role_of : ℕ → Role
role_of i =
    if nat_lt i 16 then Sync 0
    else if nat_le i 304 && i % 16 == 0 then Sync 1
    else if nat_lt i 32 then Control (i - 16)
    else if nat_lt i 304 then Data (15 * (i / 16 - 2) + i % 16)
    else if nat_lt i 310 then Data (i - 49)
    else if nat_lt i 316 then Control (i - 294)
    else Time (i - 315)

-- the role exists in a frame
abbrev pub IsRole : Role → Type 0
IsRole (Sync bit) = bit < 2
IsRole (Control c) = (1 ≤ c) × (c ≤ 21)
IsRole (Data n) = (1 ≤ n) × (n ≤ 260)
IsRole (Time t) = (1 ≤ t) × (t ≤ 4)

-- the place of a role: the only one of a control, data or time bit, the first one of a sync bit
unfoldable pub place_of_role : Role → ℕ
place_of_role (Sync bit) = 16 * bit
place_of_role (Control c) = if nat_le c 15 then c + 16 else c + 294
place_of_role (Data n) = if nat_le n 255 then n + 32 + (n - 1) / 15 else n + 49
place_of_role (Time t) = t + 315

-- the bit with a role
abbrev pub bit_with : List ℕ → Role → ℕ
bit_with bits role = slice_index bits (place_of_role role)
