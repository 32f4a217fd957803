use Rattle.std.proofs.Common.{◌≡◌, ◌++◌, ℕ, List, length, reverse}
use Rattle.farm_live.specs.declared.live.Caller.{Caller}
use Rattle.farm_live.specs.Closing.{AreJoined, AreAllSeated}
use Rattle.farm_live.proofs.closing.join_all.Given as goal

abbrev pub invariant-loop-other : goal.invariant-loop-other
invariant-loop-other l =
    (rest : List Caller) × (l.fn.others.items ≡ l.others.items ++ rest)
    × ((inbox : ℕ) (cs : List Caller) → AreJoined inbox l.slots cs l.fn.first.seats.items → AreAllSeated inbox l.slots l.fn.others.items →
    AreJoined inbox l.slots (cs ++ reverse rest) l.first.seats.items)

abbrev pub decreases-loop-other : goal.decreases-loop-other
decreases-loop-other l = length l.others.items
