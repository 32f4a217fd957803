-- The octets of a payload in the jitter buffer.
use Rattle.std.specs.Prelude.{◌≡◌, ℕ, zero, suc, ◌+◌, ◌*◌, ◌%◌, ◌^◌, ◌<◌, ◌≤◌, ◌-◌, ◌==◌, ◌||◌, ◌∷◌, min, nat_lt, if◌then◌else◌, Bool, true, false, Option, Some, None, List, length, slice_range}
use Rattle.std.specs.List.{count_by, range_with_len}
use Rattle.rtp_buffer.specs.declared.slot.Slot.{Slot}
use Rattle.rtp_buffer.specs.declared.octet.Octet.{Octet}
use Rattle.rtp_buffer.specs.declared.octet.Octet.TheVariants.{Missing}
use Rattle.rtp_buffer.specs.declared.buffer.Buffer.{Buffer}
use Rattle.rtp_buffer.specs.declared.buffer.Outcome.{Outcome}
use Rattle.rtp_buffer.specs.declared.buffer.Outcome.TheVariants.{Taken, Late, Doubled}
use Rattle.rtp_buffer.specs.declared.pace.Pace.{Pace}
use Rattle.rtp_buffer.specs.Octets.{came, with_octet}
use Rattle.rtp_buffer.specs.Store.{place}
use Rattle.rtp_buffer.specs.History.{Deed, Put}
use Rattle.rtp_buffer.specs.Watch.{on, back}
use Rattle.rtp_buffer.specs.Pace.{wait_of, is_late}
use Rattle.rtp_buffer.specs.Buffer.{seen, late_behind, newest_wait, newer_of, outcome_of}

-- the octets of a payload that lie before a place, if it begins at the part-th one
abbrev pub octets_before : ℕ → ℕ → ℕ → ℕ
octets_before place part length = min (place - part) length

-- The octet that comes for the k-th place of a period, if a payload is laid from the part-th place of its first period
-- on: periods of `size` octets follow one another.
abbrev pub comes_for : ℕ → ℕ → ℕ → List ℕ → ℕ → ℕ → Option ℕ
comes_for size first part payload period k = came part payload (length payload) (back period first * size + k)

-- **Of a period that isn't late the first octet that came for each place is held; what is late isn't taken.**
abbrev pub with_payload : ℕ → Octet → Option ℕ → Octet
with_payload wait octet more = if is_late wait then octet else with_octet octet more

-- what is known after a payload, from its first period on
abbrev pub IsLaid : {N : ℕ} → Pace → ℕ → List (Slot N) → List (Slot N) → ℕ → ℕ → List ℕ → Type 0
IsLaid {N} pace tick old new first part payload = (period k : ℕ) → period < 2 ^ 32 → back period first < 128 → k < N →
    place new period k ≡ with_payload (wait_of pace period tick) (place old period k) (comes_for N first part payload period k)

-- the periods before it are as they were
abbrev pub IsKeptBefore : {N : ℕ} → List (Slot N) → List (Slot N) → ℕ → Type 0
IsKeptBefore old new first = (period k : ℕ) → period < 2 ^ 32 → 0 < back first period → back first period ≤ 77 → place new period k ≡ place old period k

-- ---- what is put of a payload, period by period

-- where its n-th period begins, and the octets of that one
abbrev pub start_of : ℕ → ℕ → ℕ
start_of part n = if n == 0 then part else 0

abbrev pub octets_of : ℕ → ℕ → List ℕ → ℕ → List ℕ
octets_of size part payload n = slice_range payload (octets_before (n * size) part (length payload)) (octets_before ((n + 1) * size) part (length payload))

-- A period that waits so long is put, unless it is late or has no octets. What came before may be put again: it changes
-- nothing.
abbrev pub with_put : ℕ → ℕ → ℕ → List ℕ → List Deed → List Deed
with_put wait period start octets deeds = if is_late wait || (length octets == 0) then deeds else Put period start octets ∷ deeds

-- what was done with a store, once the first n periods of a payload were laid
abbrev pub with_periods : ℕ → Pace → ℕ → ℕ → ℕ → List ℕ → ℕ → List Deed → List Deed
with_periods size pace tick first part payload zero deeds = deeds
with_periods size pace tick first part payload (suc n) deeds =
    with_put (wait_of pace (on first n) tick) (on first n) (start_of part n) (octets_of size part payload n) (with_periods size pace tick first part payload n deeds)

-- a payload of at most a second ends in its first 51 periods
abbrev pub most_periods : ℕ
most_periods = 51

-- ---- what becomes of its periods

-- the octets of its n-th period are so many
abbrev pub count_of : ℕ → ℕ → ℕ → ℕ → ℕ
count_of size part length n = octets_before ((n + 1) * size) part length - octets_before (n * size) part length

-- **What becomes of a payload's n-th period, by the buffer before the payload:** it is taken, late or doubled, if
-- octets of it come.
abbrev pub period_outcome : {N : ℕ} → Buffer N → ℕ → ℕ → ℕ → ℕ → ℕ → Option Outcome
period_outcome {N} buffer tick first part length n =
    if count_of N part length n == 0 then None
    else Some (outcome_of buffer (on first n) (start_of part n) (count_of N part length n) tick)

abbrev pub is_taken : Option Outcome → Bool
is_taken None = false
is_taken (Some Taken) = true
is_taken (Some Late) = false
is_taken (Some Doubled) = false

abbrev pub is_late_one : Option Outcome → Bool
is_late_one None = false
is_late_one (Some Taken) = false
is_late_one (Some Late) = true
is_late_one (Some Doubled) = false

abbrev pub is_doubled : Option Outcome → Bool
is_doubled None = false
is_doubled (Some Taken) = false
is_doubled (Some Late) = false
is_doubled (Some Doubled) = true

-- how many of a payload's periods pass
abbrev pub periods_that : (ℕ → Bool) → ℕ
periods_that passes = count_by passes (range_with_len 0 most_periods)

-- the newest period after the first n of a payload, each of which is noted if it is taken
abbrev pub newest_after : (ℕ → Bool) → ℕ → ℕ → ℕ → ℕ
newest_after taken first newest zero = newest
newest_after taken first newest (suc n) =
    if taken n then newer_of (newest_after taken first newest n) (on first n) else newest_after taken first newest n

-- **What is known of all periods after a payload.** 256 periods have a slot each. A period beyond them is forgotten if
-- its slot has a period of the payload now, and else is as it was.
abbrev pub place_laid : {N : ℕ} → Buffer N → ℕ → ℕ → ℕ → List ℕ → ℕ → ℕ → Octet
place_laid {N} old tick first part payload period k =
    if nat_lt (back period first) 256
    then with_payload (wait_of old.pace period tick) (place old.store.slots period k) (comes_for N first part payload period k)
    else if is_taken (period_outcome old tick first part (length payload) (back period first % 256)) then Missing
    else place old.store.slots period k

abbrev pub IsLaidEverywhere : {N : ℕ} → Buffer N → Buffer N → ℕ → ℕ → ℕ → List ℕ → Type 0
IsLaidEverywhere {N} old new tick first part payload = (period k : ℕ) → period < 2 ^ 32 → k < N →
    place new.store.slots period k ≡ place_laid old tick first part payload period k

-- ---- what a payload says of the path

-- the pace after a period that waits so long, and of which octets were lacking
abbrev pub told : Pace → ℕ → ℕ → ℕ → Bool → Pace
told pace wait newest tick watched = if is_late wait then (if watched then late_behind pace wait newest tick else pace) else seen pace wait tick watched

-- **What a payload's first period says,** unless all its octets came before
abbrev pub pace_told : Option Outcome → Pace → ℕ → ℕ → ℕ → Bool → Pace
pace_told None pace wait newest tick watched = pace
pace_told (Some Taken) pace wait newest tick watched = told pace wait newest tick watched
pace_told (Some Late) pace wait newest tick watched = told pace wait newest tick watched
pace_told (Some Doubled) pace wait newest tick watched = pace

abbrev pub pace_laid : {N : ℕ} → Buffer N → ℕ → ℕ → ℕ → ℕ → Bool → Pace
pace_laid buffer tick first part length watched =
    pace_told (period_outcome buffer tick first part length 0) buffer.pace (wait_of buffer.pace first tick) (newest_wait buffer.pace buffer.newest tick) tick watched
