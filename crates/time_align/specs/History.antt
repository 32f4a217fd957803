-- Time alignment by all past events (this project's profile, modelled on GSM 08.60). A history has the newest event
-- first.
use Rattle.std.specs.Prelude.{ℕ, ℤ, pos, Bool, true, false, if◌then◌else◌, Option, Some, List, [], ◌∷◌}
use Rattle.time_align.specs.Shift.{latest_shift}

-- the events: a field is asked, shifts are frozen or thawed, a frame adopts its shift
pub data Event : Type 0 where
  Asks : ℕ → Event
  Freezes : Event
  Thaws : Event
  Adopts : Event

-- whether shifts are frozen: the latest freeze or thaw decides, and at first they aren't
abbrev pub is_frozen : List Event → Bool
is_frozen [] = false
is_frozen (Asks field ∷ past) = is_frozen past
is_frozen (Freezes ∷ past) = true
is_frozen (Thaws ∷ past) = false
is_frozen (Adopts ∷ past) = is_frozen past

-- the fields asked since a frame was last made while shifts weren't frozen, the newest first
abbrev pub fields_since : List Event → List (Option ℕ)
fields_since [] = []
fields_since (Asks field ∷ past) = Some field ∷ fields_since past
fields_since (Freezes ∷ past) = fields_since past
fields_since (Thaws ∷ past) = fields_since past
fields_since (Adopts ∷ past) = if is_frozen past then fields_since past else []

-- the shift of a frame made now: 0 while frozen, else the latest that these fields ask for, or 0
abbrev pub shift_now : List Event → ℤ
shift_now past = if is_frozen past then pos 0 else latest_shift (fields_since past)
