-- What is seen of a path (this project's profile). Ticks and waits are numbers of 32 bits; after the greatest comes 0.
use Rattle.std.specs.Prelude.{ℕ, suc, ◌+◌, ◌-◌, ◌/◌, ◌%◌, ◌^◌, Bool, ◌&&◌, ◌||◌, if◌then◌else◌, nat_le, nat_lt, List, [], ◌∷◌, slice_index, slice_set, slice_range}
use Rattle.std.specs.List.{list_any}
use Rattle.std.proofs.Math.ListN.{replicate}
use Rattle.rtp_buffer.specs.declared.watch.Burst.{Burst}
use Rattle.rtp_buffer.specs.declared.watch.Watch.{Watch}

-- sums and differences of numbers of 32 bits
abbrev pub on : ℕ → ℕ → ℕ
on a b = (a + b) % 2 ^ 32

abbrev pub back : ℕ → ℕ → ℕ
back a b = (a + (2 ^ 32 - b)) % 2 ^ 32

-- waits are told apart from so many ticks too late up to so many ticks, a second
abbrev pub most_told : ℕ
most_told = 50

-- a path is judged by so many packets, or after so many ticks, 10 s, by at least so few packets
abbrev pub window : ℕ
window = 500

abbrev pub fewest : ℕ
fewest = 50

-- one packet in so many may come too late
abbrev pub stragglers : ℕ
stragglers = 100

-- a packet that waits so many ticks waits long
abbrev pub long_wait : ℕ
long_wait = 40

-- nothing was seen before a tick
abbrev pub no_burst : Burst
no_burst = record { tick = 0; late = 0 }

abbrev pub watch_home : ℕ → Watch
watch_home tick = record { from = tick; count = 0; waits = replicate 101 0; before = no_burst; last = no_burst }

-- whether watching has begun
abbrev pub has_begun : Watch → ℕ → Bool
has_begun watch tick = nat_lt (back tick watch.from) (2 ^ 31)

-- with a packet that waits so long: the n-th count is of packets that wait n - 50 ticks
abbrev pub with_wait : Watch → ℕ → ℕ → Watch
with_wait watch wait tick =
    let place = on wait most_told in
    if has_begun watch tick && nat_lt place 101 then record watch { count = on watch.count 1; waits = slice_set watch.waits place (on (slice_index watch.waits place) 1) }
    else watch

-- whether there was such a burst, at most so many ticks ago
abbrev pub is_within : Burst → ℕ → ℕ → Bool
is_within burst tick ticks = nat_lt 0 burst.late && nat_le (back tick burst.tick) ticks

-- whether enough was seen to judge the path
abbrev pub is_due : Watch → ℕ → Bool
is_due watch tick = nat_le window watch.count || (nat_le window (back tick watch.from) && nat_le fewest watch.count)

-- where the packet of a rank is, if they are counted from the first place on
abbrev pub place_of_rank : List ℕ → ℕ → ℕ
place_of_rank [] rank = 0
place_of_rank (count ∷ counts) rank = if nat_lt rank count then 0 else suc (place_of_rank counts (rank - count))

-- the wait of the first packet that isn't among the hundredth part which waits least; and 50
abbrev pub least_of : Watch → ℕ
least_of watch = place_of_rank watch.waits (watch.count / stragglers)

-- whether a packet waited long
abbrev pub is_long : List ℕ → Bool
is_long waits = list_any (λ count. nat_lt 0 count) (slice_range waits (most_told + long_wait) 101)
