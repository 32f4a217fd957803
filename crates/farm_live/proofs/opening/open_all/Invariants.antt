use Rattle.std.proofs.Common.{◌≡◌, ◌≤◌, vec_len, vec_capacity}
use Rattle.farm_live.specs.Slot.{all_callers}
use Rattle.farm_live.specs.Live.{IsNewRow}
use Rattle.farm_live.proofs.opening.open_all.Given as goal

abbrev pub invariant-loop-k : goal.invariant-loop-k
invariant-loop-k g l = record {
  seats : IsNewRow all_callers l.inbox l.slots.items l.seats.items;
  count : vec_len l.slots ≡ l.k;
  same : vec_len l.seats ≡ l.k;
  room : l.calls ≤ vec_capacity l.slots;
  seats_room : l.calls ≤ vec_capacity l.seats;
}
