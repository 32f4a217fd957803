use Rattle.std.proofs.Common.{◌≡◌, ◌≤◌, ℕ, List, length, vec_len, vec_capacity}
use Rattle.farm_live.specs.declared.live.Caller.{Caller}
use Rattle.farm_live.specs.Closing.{AreJoined, AreClosedTo}
use Rattle.farm_live.proofs.Joining.{AreLeft}
use Rattle.farm_live.proofs.closing.close_all.Given as goal

abbrev pub invariant-loop-k : goal.invariant-loop-k
invariant-loop-k g l = record {
  left : (inbox : ℕ) (cs : List Caller) → AreJoined inbox l.slots cs l.fn.all.seats.items → AreLeft inbox l.slots cs l.k l.all.seats.items;
  closed : (inbox : ℕ) (cs : List Caller) → AreJoined inbox l.slots cs l.fn.all.seats.items → AreClosedTo cs l.closed.items;
  len : vec_len l.closed ≡ l.k;
  capacity : length l.slots ≤ vec_capacity l.closed;
}
