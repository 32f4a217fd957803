use Rattle.std.proofs.Common.{◌≡◌, ℕ, [], ◌∷◌, ◌++◌, length, refl, sym, ap, ◌∙◌, subst, arith}
use Rattle.farm_live.specs.declared.live.Seat.{Seat}
use Rattle.farm_live.specs.Slot.{all_callers}
use Rattle.farm_live.specs.Turns.{new_view}
use Rattle.farm_live.specs.Live.{book_at, IsNewSeat, IsNewRow}
use Rattle.farm_live.proofs.NewFarm.{row_more}
use Rattle.farm_live.proofs.opening.open_all.Goals as goal

pub loop-k-preserved : goal.loop-k-preserved
loop-k-preserved g c =
    let old = c.loop-k.invariant in
    let slots = c.loop-k.slots.items in
    let seats = c.loop-k.seats.items in
    let inbox = c.args.inbox in
    let len : length slots ≡ c.loop-k.k = omega (arith, old.count, c.loop-k.slots.ok.0) in
    let seat : Seat = record { pass = c.in_ok-slot.pass; posted = 0 } in
    let opened = c.in_ok-slot.ensures in
    let new : IsNewSeat all_callers (book_at inbox (length slots)) c.in_ok-slot.slot seat =
    record { pass = opened.0; capacity = opened.1; view = opened.2 ∙ ap (λ (n : ℕ). new_view all_callers (book_at inbox n)) (sym len); posted = refl } in
    record {
      seats = subst (λ xs. IsNewRow all_callers inbox xs c.push_reserved-in-loop-k.new.self.items) (sym c.push_reserved.ensures.items)
          (subst (λ ys. IsNewRow all_callers inbox (slots ++ c.in_ok-slot.slot ∷ []) ys) (sym c.push_reserved-in-loop-k.ensures.items)
          (row_more all_callers inbox slots seats c.in_ok-slot.slot seat old.seats new));
      count = omega (arith, old.count, c.push_reserved.ensures.len);
      same = omega (arith, old.same, c.push_reserved-in-loop-k.ensures.len);
      room = omega (arith, old.room, c.push_reserved.ensures.capacity);
      seats_room = omega (arith, old.seats_room, c.push_reserved-in-loop-k.ensures.capacity);
    }
