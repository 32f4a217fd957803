use Rattle.std.proofs.Common.{◌≡◌, ◌++◌, ℕ, List, length}
use Rattle.farm_live.specs.declared.live.Seat.{Seat}
use Rattle.farm_live.specs.declared.live.Caller.{Caller}
use Rattle.farm_live.specs.Live.{IsSeated}
use Rattle.farm_live.specs.Closing.{AreJoined, AreHalfJoined}
use Rattle.farm_live.proofs.closing.join.Given as goal

abbrev pub invariant-loop-seat : goal.invariant-loop-seat
invariant-loop-seat l =
    (rest : List Seat) × (l.fn.other.seats.items ≡ l.seats.items ++ rest)
    × ((inbox : ℕ) (cs : List Caller) → AreJoined inbox l.slots cs l.fn.first.seats.items → IsSeated inbox l.slots l.fn.other →
    AreHalfJoined inbox l.slots cs l.fn.other (length l.seats.items) l.first.seats.items)

abbrev pub decreases-loop-seat : goal.decreases-loop-seat
decreases-loop-seat l = length l.seats.items
