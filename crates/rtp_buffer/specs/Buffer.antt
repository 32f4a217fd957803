-- A line's jitter buffer: its store and its pace.
use Rattle.std.specs.Prelude.{◌≡◌, ℕ, ◌+◌, ◌≤◌, ◌<◌, ◌^◌, nat_lt, Some, None, Bool, true, false, if◌then◌else◌, List}
use Rattle.std.specs.List.{list_all, range_with_len}
use Rattle.rtp_buffer.specs.declared.slot.Slot.{Slot}
use Rattle.rtp_buffer.specs.declared.pace.Pace.{Pace}
use Rattle.rtp_buffer.specs.declared.buffer.Buffer.{Buffer}
use Rattle.rtp_buffer.specs.declared.buffer.Outcome.{Outcome}
use Rattle.rtp_buffer.specs.declared.buffer.Outcome.TheVariants.{Taken, Late, Doubled}
use Rattle.rtp_buffer.specs.Store.{content, known}
use Rattle.rtp_buffer.specs.Watch.{on, back, with_wait}
use Rattle.rtp_buffer.specs.Pace.{wait_of, is_late, straggled, due, reviewed}

-- the period that is played at a tick
abbrev pub period_at : Pace → ℕ → ℕ
period_at pace tick = on tick pace.shift

-- whether something of a period waits
abbrev pub Waits : {N : ℕ} → List (Slot N) → ℕ → Type 0
Waits slots period = (k : ℕ) × (octet : ℕ) × (content slots period k ≡ Some octet)

abbrev pub NothingWaits : {N : ℕ} → List (Slot N) → ℕ → Type 0
NothingWaits slots period = (k : ℕ) → content slots period k ≡ None

-- whether so many octets of a period came, from a place on
abbrev pub AllKnown : {N : ℕ} → List (Slot N) → ℕ → ℕ → ℕ → Type 0
AllKnown slots period part count = (k : ℕ) → part ≤ k → k < part + count → known slots period k ≡ true

abbrev pub IsLacking : {N : ℕ} → List (Slot N) → ℕ → ℕ → ℕ → Type 0
IsLacking slots period part count = (k : ℕ) × (part ≤ k) × (k < part + count) × (known slots period k ≡ false)

-- a Bool that says it
pub record SaysWaits {N : ℕ} (slots : List (Slot N)) (period : ℕ) (waits : Bool) : Type 0 where
  pub yes : waits ≡ true → Waits slots period
  pub no : waits ≡ false → NothingWaits slots period

pub record SaysKnown {N : ℕ} (slots : List (Slot N)) (period part count : ℕ) (whole : Bool) : Type 0 where
  pub yes : whole ≡ true → AllKnown slots period part count
  pub no : whole ≡ false → IsLacking slots period part count

-- **What becomes of octets that come for a period, from a place on: they are doubled if all of them came before; else
-- late if the period is past.**
abbrev pub all_known : {N : ℕ} → List (Slot N) → ℕ → ℕ → ℕ → Bool
all_known slots period part count = list_all (known slots period) (range_with_len part count)

abbrev pub outcome_of : {N : ℕ} → Buffer N → ℕ → ℕ → ℕ → ℕ → Outcome
outcome_of buffer period part count tick =
    if all_known buffer.store.slots period part count then Doubled else if is_late (wait_of buffer.pace period tick) then Late else Taken

-- the ticks that the newest period still waits, and 0 if its time is past
abbrev pub newest_wait : Pace → ℕ → ℕ → ℕ
newest_wait pace newest tick = if is_late (wait_of pace newest tick) then 0 else wait_of pace newest tick

-- the newer one of two periods, the nearer way round
abbrev pub newer_of : ℕ → ℕ → ℕ
newer_of newest period = if nat_lt (back period newest) (2 ^ 31) then period else newest

-- the pace with a packet's wait
abbrev pub seen : Pace → ℕ → ℕ → Bool → Pace
seen pace wait tick watched = if watched then record pace { watch = with_wait pace.watch wait tick } else pace

-- A late packet: it is behind the newest one by its own lateness and what that one still waits.
abbrev pub late_behind : Pace → ℕ → ℕ → ℕ → Pace
late_behind pace wait newest tick = straggled (seen pace wait tick true) (back 0 wait) (on newest (back 0 wait)) tick

-- nothing is owed: waits are judged, if enough packets came
abbrev pub judged : Pace → ℕ → Pace
judged pace tick = if due pace tick then reviewed pace tick else pace
