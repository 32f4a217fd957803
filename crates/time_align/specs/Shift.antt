-- The shifts that alignment fields ask for (this project's profile, modelled on GSM 08.60).
use Rattle.std.specs.Prelude.{◌≡◌, ◌≤◌, ℕ, ◌*◌, ℤ, pos, negsuc, if◌then◌else◌, ◌==◌, nat_le, Option, Some, None, unwrap_or, List, [], ◌∷◌}

-- fields from 1 up to this one ask for as many steps
abbrev pub most_steps : ℕ
most_steps = 39

-- the octets of the Pcm line in a step, which is 500 microseconds
abbrev pub step_octets : ℕ
step_octets = 4

-- the greatest shift
abbrev pub greatest_shift : ℕ
greatest_shift = step_octets * most_steps

-- the field that asks for half a step, and its shift
abbrev pub small_delay_field : ℕ
small_delay_field = 62

abbrev pub small_delay : ℤ
small_delay = pos 2

-- the field that asks for half a step less, and its shift of -2
abbrev pub advance_field : ℕ
advance_field = 63

abbrev pub advance : ℤ
advance = negsuc 1

-- the shift of a field, in octets of the Pcm line; any other field asks for none
unfoldable pub shift_of : ℕ → Option ℤ
shift_of field =
    if field == 0 then None
    else if nat_le field most_steps then Some (pos (step_octets * field))
    else if field == small_delay_field then Some small_delay
    else if field == advance_field then Some advance
    else None

-- what is asked for after one more field: its shift, or what was asked for before
abbrev pub asked_then : ℕ → Option ℤ → Option ℤ
asked_then field before = elim (shift_of field) [ None ↦ before | Some shift ↦ Some shift ]

-- the shift of the latest field that asks for one; the fields have the newest period first, and a period without a
-- frame has no field
abbrev pub latest_ask : List (Option ℕ) → Option ℤ
latest_ask [] = None
latest_ask (None ∷ before) = latest_ask before
latest_ask (Some field ∷ before) = asked_then field (latest_ask before)

-- the same, or 0 if no field asks for one
abbrev pub latest_shift : List (Option ℕ) → ℤ
latest_shift fields = unwrap_or (latest_ask fields) (pos 0)

-- what a frame's shift can be: octets that are lost, or two that are taken a second time
abbrev pub IsShift : ℤ → Type 0
IsShift (pos lost) = lost ≤ greatest_shift
IsShift (negsuc n) = n ≡ 1
