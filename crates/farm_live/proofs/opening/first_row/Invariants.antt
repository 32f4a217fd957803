use Rattle.std.proofs.Common.{◌≡◌, ◌≤◌, ℕ, List, length, take, vec_len, vec_capacity}
use Rattle.farm_live.specs.Live.{AreNew, IsNewRow}
use Rattle.farm_live.proofs.NewFarm.{AreCut}
use Rattle.farm_live.proofs.opening.first_row.Given as goal

abbrev pub invariant-loop-k : goal.invariant-loop-k
invariant-loop-k l = record {
  cut : (inbox : ℕ) (cs : List ℕ) → IsNewRow cs inbox l.slots l.fn.all → AreCut cs inbox l.slots l.k l.all;
  new : (inbox : ℕ) (cs : List ℕ) → IsNewRow cs inbox l.slots l.fn.all → AreNew (take 1 cs) inbox l.slots l.seats.items;
  len : vec_len l.seats ≡ l.k;
  capacity : length l.slots ≤ vec_capacity l.seats;
}
