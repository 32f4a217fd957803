-- Which period is played when: adaptive playout in whole periods (this project's profile; RFC 3550 leaves playout to
-- the receiver).
use Rattle.std.specs.Prelude.{ℕ, ◌+◌, ◌-◌, ◌^◌, min, max, Bool, true, false, not, ◌&&◌, ◌||◌, if◌then◌else◌, ◌==◌, nat_le, nat_lt}
use Rattle.rtp_buffer.specs.declared.pace.Owed.{Owed}
use Rattle.rtp_buffer.specs.declared.pace.Owed.TheVariants.{Nothing, On, Back}
use Rattle.rtp_buffer.specs.declared.pace.Wish.{Wish}
use Rattle.rtp_buffer.specs.declared.pace.Wish.TheVariants.{Not, IfSoft, Now}
use Rattle.rtp_buffer.specs.declared.pace.Pace.{Pace}
use Rattle.rtp_buffer.specs.Watch.{on, back, most_told, long_wait, watch_home, is_within, is_due, least_of, is_long}

-- ---- the profile's numbers, in ticks of 20 ms

-- what is owed waits so long for a pause or soft speech
abbrev pub patience : ℕ
patience = 250

-- between two slips in speech
abbrev pub rest : ℕ
rest = 10

-- late packets within so many ticks are one burst
abbrev pub burst : ℕ
burst = 5

-- three late bursts within so many ticks: the path reorders
abbrev pub reordering : ℕ
reordering = 100

-- ---- the delay

-- A period is played when its number, less the shift, is the tick. Until then it waits; the greater half of the numbers
-- is late.
abbrev pub wait_of : Pace → ℕ → ℕ → ℕ
wait_of pace period tick = back (back period pace.shift) tick

abbrev pub is_late : ℕ → Bool
is_late wait = nat_le (2 ^ 31) wait

-- **A stream begins**: its period 0 has come at a tick, and waits `depth` ticks.
abbrev pub pace_home : ℕ → ℕ → Pace
pace_home depth tick = record {
  depth = depth;
  shift = back (back 0 tick) depth;
  was_late = false;
  owed = Nothing;
  patience = 0;
  slipped_at = back tick rest;
  late_at = tick;
  watch = watch_home tick;
}

-- **A longer path**: two packets in a row, each newer than all before, are late. From then on the second one waits
-- `depth` ticks, as the first packet of the stream did. One late packet alone changes nothing. If the path only
-- stalled, what comes within as many ticks as the playing moved is the rest of what it held: its waits aren't counted,
-- while late packets of it still begin bursts.
abbrev pub followed : Pace → ℕ → ℕ → Pace
followed pace wait tick =
    if is_late wait && pace.was_late
    then record pace { shift = back (on pace.shift wait) pace.depth; owed = Nothing; was_late = false; watch = watch_home (on tick (back pace.depth wait)) }
    else record pace { was_late = is_late wait }

-- **Time given up**: so many periods aren't played.
abbrev pub given_up : Pace → ℕ → Pace
given_up pace periods = record pace { shift = on pace.shift periods }

-- ---- a path that reorders

-- the middle one of three
abbrev pub median : ℕ → ℕ → ℕ → ℕ
median a b c = max (min a b) (min (max a b) c)

-- A late packet begins a burst unless one began less than 5 ticks ago. It says nothing about the path if, for it to be
-- in time, the newest one would have to wait long.
abbrev pub is_same_burst : Pace → ℕ → Bool
is_same_burst pace tick = is_within pace.watch.last tick (burst - 1)

abbrev pub is_too_far : ℕ → Bool
is_too_far behind = nat_lt long_wait behind && nat_lt behind (2 ^ 31)

abbrev pub with_burst : Pace → ℕ → ℕ → Pace
with_burst pace late tick = record pace { late_at = tick; watch = record pace.watch { before = pace.watch.last; last = record { tick = tick; late = late } } }

-- **Reordering**: with the third burst within 100 ticks slips back are owed, as many as the middle one of the three is
-- late.
abbrev pub is_third : Pace → ℕ → Bool
is_third pace tick = is_within pace.watch.before tick reordering && is_within pace.watch.last tick reordering

abbrev pub straggled : Pace → ℕ → ℕ → ℕ → Pace
straggled pace late behind tick =
    if is_same_burst pace tick || is_too_far behind then record pace { late_at = tick }
    else if is_third pace tick
    then record (with_burst pace late tick) { owed = Back (median pace.watch.before.late pace.watch.last.late late); patience = patience }
    else with_burst pace late tick

-- Two slips back and more are for a path that reorders: they are owed no longer if nothing was late for 100 ticks.
abbrev pub is_past : Owed → ℕ → Bool
is_past Nothing ago = false
is_past (On count) ago = false
is_past (Back count) ago = nat_lt 1 count && nat_lt reordering ago

-- ---- the depth comes back

-- whether enough was seen to judge the path
abbrev pub due : Pace → ℕ → Bool
due pace tick = is_due pace.watch tick

-- **Slips on** are owed if all packets but a hundredth part wait longer than the depth: as many as they wait longer.
-- **One slip back** is owed if more than a hundredth part come just in time or late, unless one waited long.
abbrev pub owed_by : ℕ → Owed → ℕ → Bool → Owed
owed_by depth owed least long =
    if nat_lt depth (least - most_told) then On (least - most_told - depth)
    else if nat_lt least (most_told + min depth 1) && not long then Back 1
    else owed

abbrev pub reviewed : Pace → ℕ → Pace
reviewed pace tick = record pace {
  owed = owed_by pace.depth pace.owed (least_of pace.watch) (is_long pace.watch.waits);
  patience = patience;
  watch = watch_home tick;
}

-- ---- when a slip is made

-- A slip on leaves out what came of a period, and a slip back holds up a whole one: both are heard in speech. Of a part
-- the rest may still come.
abbrev pub is_speech : Owed → Bool → Bool → Bool
is_speech Nothing waits whole = waits && whole
is_speech (On count) waits whole = waits
is_speech (Back count) waits whole = waits && whole

-- **Where it isn't heard, at once. In speech 10 ticks after the one before, and then in soft speech, or anywhere once
-- 250 ticks have passed.**
abbrev pub wish_in : Bool → ℕ → ℕ → Wish
wish_in speech ago left =
    if not speech then Now else if nat_lt ago rest then Not else if left == 0 then Now else IfSoft

abbrev pub wished : Pace → Bool → Bool → ℕ → Pace × Wish
wished pace waits whole tick =
    if is_past pace.owed (back tick pace.late_at) then (record pace { owed = Nothing }, Not)
    else (record pace { patience = pace.patience - 1 }, wish_in (is_speech pace.owed waits whole) (back tick pace.slipped_at) (pace.patience - 1))

-- **A slip moves the playing by one period.**
abbrev pub shift_after : Owed → ℕ → ℕ
shift_after Nothing shift = shift
shift_after (On count) shift = on shift 1
shift_after (Back count) shift = back shift 1

abbrev pub fewer : Owed → Owed
fewer Nothing = Nothing
fewer (On count) = if nat_lt 1 count then On (count - 1) else Nothing
fewer (Back count) = if nat_lt 1 count then Back (count - 1) else Nothing

abbrev pub is_owed : Owed → Bool
is_owed Nothing = false
is_owed (On count) = true
is_owed (Back count) = true

abbrev pub slipped : Pace → ℕ → Pace
slipped pace tick =
    if is_owed pace.owed
    then record pace { shift = shift_after pace.owed pace.shift; owed = fewer pace.owed; slipped_at = tick; watch = watch_home tick }
    else pace
