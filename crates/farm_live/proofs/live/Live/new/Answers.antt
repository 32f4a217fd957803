use Rattle.std.proofs.Common.{subst, sym}
use Rattle.farm_live.specs.Slot.{all_callers}
use Rattle.farm_live.specs.Live.{IsNewRow, AreCallers}
use Rattle.farm_live.proofs.live.Live.new.Goals as goal

pub seat_all-requires-clause-seats : goal.seat_all-requires-clause-seats
seat_all-requires-clause-seats g c =
    (c.args.inbox, subst (λ xs. IsNewRow all_callers c.args.inbox xs c.in_ok-slots.seats.items) (sym c.as_slice.ensures.value) c.in_ok-slots.ensures.seats)

pub returns-clause-callers : goal.returns-clause-callers
returns-clause-callers g c =
    subst (λ xs. AreCallers c.args.inbox c.args.callers xs c.in_ok-rows.rows.items) c.as_slice.ensures.value
    (c.in_ok-rows.ensures c.args.inbox (subst (λ xs. IsNewRow all_callers c.args.inbox xs c.in_ok-slots.seats.items) (sym c.as_slice.ensures.value)
    c.in_ok-slots.ensures.seats))
