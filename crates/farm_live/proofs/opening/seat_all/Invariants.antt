use Rattle.std.proofs.Common.{◌≡◌, ◌≤◌, ◌<◌, ℕ, length, drop, get_or, vec_len, vec_capacity}
use Rattle.farm_live.specs.declared.live.Caller.{Caller}
use Rattle.farm_live.specs.Slot.{all_callers}
use Rattle.farm_live.specs.Live.{IsNewRow, IsNewCaller}
use Rattle.farm_live.proofs.opening.seat_all.Given as goal

abbrev pub invariant-loop-number : goal.invariant-loop-number
invariant-loop-number l = record {
  left : (inbox : ℕ) → IsNewRow all_callers inbox l.slots l.fn.all.items → IsNewRow (drop l.number all_callers) inbox l.slots l.all.items;
  rows : (inbox : ℕ) → IsNewRow all_callers inbox l.slots l.fn.all.items → (i : ℕ) (c : Caller) → i < length l.rows.items →
      IsNewCaller inbox l.callers i l.slots (get_or l.rows.items i c);
  len : vec_len l.rows ≡ l.number;
  capacity : l.callers ≤ vec_capacity l.rows;
}
