-- What came of one source (RFC 3550, appendices A.1, A.3 and A.8), a packet at a time. After the greatest number of 16
-- or 32 bits comes 0.
use Rattle.std.specs.Prelude.{ℕ, ◌+◌, ◌-◌, ◌*◌, ◌/◌, ◌%◌, ◌^◌, Bool, true, false, ◌&&◌, if◌then◌else◌, ◌==◌, nat_le, nat_lt, Option, Some, None}
use Rattle.rtp_packet.specs.declared.reception.Reception.{Reception}

-- the sum and the difference of numbers of so many bits
abbrev pub on : ℕ → ℕ → ℕ → ℕ
on bits a b = (a + b) % 2 ^ bits

abbrev pub back : ℕ → ℕ → ℕ → ℕ
back bits a b = (a + (2 ^ bits - b)) % 2 ^ bits

-- how far apart two numbers of 32 bits are, the nearer way round
abbrev pub distance : ℕ → ℕ → ℕ
distance a b = if nat_lt (back 32 a b) (2 ^ 31) then back 32 a b else back 32 b a

-- the greatest gap between numbers of one run of packets (A.1), and the movement, a second, from which on nothing is
-- said about jitter
abbrev pub most_gap : ℕ
most_gap = 3000

abbrev pub most_moved : ℕ
most_moved = 8000

-- **sixteen times the jitter, after a packet that moved by so much** (A.8): J + |D| - (J + 8) / 16
abbrev pub smoothed : ℕ → ℕ → ℕ
smoothed jitter moved = if nat_lt moved most_moved then jitter + moved - (jitter + 8) / 16 else jitter

-- it never exceeds this
abbrev pub most_jitter : ℕ
most_jitter = 16 * most_moved

-- a packet moved by what its transit differs from that of the packet before, if both are known
abbrev pub jitter_after : ℕ → Option ℕ → ℕ → ℕ
jitter_after jitter None now = jitter
jitter_after jitter (Some before) now = smoothed jitter (distance now before)

-- before the first packet, which has this number
abbrev pub reception_home : ℕ → ℕ → Reception
reception_home source first = record {
  source = source;
  first = first;
  highest = back 32 first 1;
  received = 0;
  jitter = 0;
  transit = None;
  restart = None;
}

-- how far a number is ahead of the highest one
abbrev pub ahead_of : Reception → ℕ → ℕ
ahead_of r number = back 16 number (r.highest % 2 ^ 16)

-- a number that is a little ahead becomes the highest, and one that is a little behind changes nothing
abbrev pub with_near : Reception → ℕ → Reception
with_near r ahead = if nat_le ahead most_gap then record r { highest = on 32 r.highest ahead } else r

-- A number that is far away doesn't count. If the very next one follows, the sender began anew (A.1), and nothing
-- counts as missing for it.
abbrev pub is_restart : Option ℕ → ℕ → Bool
is_restart None number = false
is_restart (Some next) number = next == number

abbrev pub with_far : Reception → ℕ → ℕ → Reception
with_far r number ahead = if is_restart r.restart number
    then record r { restart = Some (on 16 number 1); first = on 32 r.first (ahead - 1); highest = on 32 r.highest ahead }
    else record r { restart = Some (on 16 number 1) }

abbrev pub is_far : ℕ → Bool
is_far ahead = nat_lt most_gap ahead && nat_lt ahead (2 ^ 16 - most_gap)

-- after a number, and whether its packet counts
abbrev pub number_taken : Reception → ℕ → Reception × Bool
number_taken r number =
    let ahead = ahead_of r number in
    if is_far ahead then (with_far r number ahead, is_restart r.restart number) else (with_near r ahead, true)

-- after a packet's transit, if it is known
abbrev pub time_taken : Reception → Option ℕ → Reception
time_taken r None = record r { transit = None }
time_taken r (Some now) = record r { jitter = jitter_after r.jitter r.transit now; transit = Some now }

-- **after a packet**
abbrev pub counted : Reception → ℕ → Option ℕ → Reception
counted r number transit =
    let taken = number_taken r number in
    if taken.1 then time_taken (record taken.0 { received = on 32 taken.0.received 1 }) transit else taken.0

-- the packets that are due by their numbers, and those of them that are missing (A.3)
abbrev pub expected_of : Reception → ℕ
expected_of r = on 32 (back 32 r.highest r.first) 1

abbrev pub missing_of : Reception → ℕ
missing_of r = back 32 (expected_of r) r.received
