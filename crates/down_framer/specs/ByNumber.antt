-- The made frames by their numbers, from a list of bridges and the fields of all periods. Periods and bridges are
-- counted from the call's opening. Lists of frames have the newest first.
use Rattle.std.specs.Prelude.{◌≡◌, ◌≤◌, ◌<◌, ℕ, ◌+◌, ◌-◌, ◌*◌, ◌/◌, zero, suc, ℤ, pos, if◌then◌else◌, ◌&&◌, nat_le, nat_lt, Option, Some, None, is_none, List}
use Rattle.std.specs.Prelude.{[], ◌∷◌, ◌++◌, length, map, take, drop, replicate, reverse, filter, find, All}
use Rattle.time_align.specs.Shift.{latest_shift}
use Rattle.down_framer.specs.Made.{Period, MadeFrame, octets_to_next, next_start, frame_on_line}

-- a bridge: its first period, and the first one after it
pub record Bridge : Type 0 where
  pub from : ℕ
  pub to : ℕ

-- a frame: its first octet, its shift, and the period whose handed frame it carries
pub record NumberedFrame : Type 0 where
  pub start : ℕ
  pub shift : ℤ
  pub carries : Option ℕ

-- the period that brings the last octet of a frame
abbrev pub when : ℕ → ℕ
when start = (start + 159) / 160

-- the number of frames made in period s or later
abbrev pub count_from : ℕ → List NumberedFrame → ℕ
count_from s fs = length (filter (λ f. nat_le s (when f.start)) fs)

-- What a frame made in period w carries. For a bridge from s to e, let i be the number of earlier frames made in period
-- s or later. If w is s or later and i is below e - s, the frame carries the one handed over in period s + i.
abbrev pub carried_item : List Bridge → ℕ → List NumberedFrame → Option ℕ
carried_item [] w fs = None
carried_item (b ∷ bs) w fs =
    if nat_le b.from w && nat_lt (count_from b.from fs) (b.to - b.from) then Some (b.from + count_from b.from fs)
    else carried_item bs w fs

-- the fields that count in period w, the newest first: those of the periods up to w and after the period of the last
-- frame that carries nothing, or of all periods up to w if there is no such frame; `fields` has those of all periods,
-- the oldest first
abbrev pub fields_to : List (Option ℕ) → ℕ → List NumberedFrame → List (Option ℕ)
fields_to fields w fs = elim (find (λ f. is_none f.carries) fs) [
  | None ↦ reverse (take (w + 1) fields)
  | Some m ↦ reverse (drop (when m.start + 1) (take (w + 1) fields))
]

-- the first frame starts at octet 0, and each further one 160 octets plus the shift after the one before
abbrev pub numbered_start : List NumberedFrame → ℕ
numbered_start [] = 0
numbered_start (f ∷ fs) = f.start + octets_to_next f.shift

-- a frame that carries nothing has the shift asked for last by the fields that count; any other has shift 0
abbrev pub numbered_next : List Bridge → List (Option ℕ) → List NumberedFrame → NumberedFrame
numbered_next bridges fields fs =
    let start = numbered_start fs in
    let item = carried_item bridges (when start) fs in
    record {
      start = start;
      shift = elim item [ None ↦ latest_shift (fields_to fields (when start) fs) | Some h ↦ pos 0 ];
      carries = item;
    }

-- the first j frames
abbrev pub numbered_frames : List Bridge → List (Option ℕ) → ℕ → List NumberedFrame
numbered_frames bridges fields zero = []
numbered_frames bridges fields (suc j) = let before = numbered_frames bridges fields j in numbered_next bridges fields before ∷ before

-- the downlink as one list: 320 ones, and then each frame with what its shift adds or leaves out; `bits j` gives the
-- bits of frame j
abbrev pub numbered_line : (ℕ → List ℕ) → List NumberedFrame → List ℕ
numbered_line bits [] = replicate 320 1
numbered_line bits (f ∷ fs) = numbered_line bits fs ++ frame_on_line f.shift (bits (length fs))

-- ---- of some periods, with the newest first

-- the bridge is longer by a period
abbrev pub longer : List Bridge → List Bridge
longer [] = []
longer (b ∷ bs) = record { from = b.from; to = b.to + 1 } ∷ bs

-- their bridges, the latest first
abbrev pub bridges_in : {A : Type 0} → List (Period A) → List Bridge
bridges_in [] = []
bridges_in (p ∷ past) =
    if p.starts then record { from = length past; to = if p.bridged then length past + 1 else length past } ∷ bridges_in past
    else if p.bridged then longer (bridges_in past)
    else bridges_in past

-- their fields, the oldest first
abbrev pub asked_fields : {A : Type 0} → List (Period A) → List (Option ℕ)
asked_fields ps = reverse (map (λ p. p.field) ps)

-- a made frame as a numbered one
abbrev pub numbered_of : {A : Type 0} → MadeFrame A → NumberedFrame
numbered_of f = record { start = f.start; shift = f.shift; carries = f.carries }

-- the bits of the newest of some frames, by its number
abbrev pub newest_bits : {A : Type 0} → (ℕ → List ℕ) → List (MadeFrame A) → List ℕ
newest_bits bits fs = bits (length fs - 1)

-- After k periods, the made frames are exactly those whose octets have all arrived, each made in the period that
-- brought the last of them.
pub record AreInTime {A : Type 0} (k : ℕ) (fs : List (MadeFrame A)) : Type 0 where
  pub made : All (λ f. (f.period ≡ when f.start) × (f.start + 160 ≤ 160 * k)) fs
  pub next : 160 * k < next_start fs + 160
