use Rattle.std.proofs.Common.{◌≡◌, ◌<◌, ℕ, length, take, drop, get_or, sym, subst, arith}
use Rattle.farm_live.specs.Live.{book_at, IsNewSeat, AreNew}
use Rattle.farm_live.proofs.NewFarm.{none_cut, none_new, one_cut, one_new, all_cut, seat_at, at_any}
use Rattle.farm_live.proofs.opening.first_row.Goals as goal

pub loop-k-init : goal.loop-k-init
loop-k-init c = record {
  cut = λ inbox cs row. none_cut cs inbox c.args.slots.now c.args.all.now row;
  new = λ inbox cs row. subst (AreNew (take 1 cs) inbox c.args.slots.now) (sym c.in_ok-seats.ensures.items) (none_new (take 1 cs) inbox c.args.slots.now);
  len = c.in_ok-seats.ensures.len;
  capacity = omega (arith, c.in_ok-seats.ensures.capacity);
}

pub first_seat-seat-requires : goal.first_seat-seat-requires
first_seat-seat-requires c =
    let r = c.requires in
    let k = c.loop-k.k in
    let cut = c.loop-k.invariant.cut r.0 r.1 r.2 in
    let there : k < length c.loop-k.all = omega (arith, cut.one_each, c.loop-k-test.true, c.loop-k.auto.k-end) in
    (book_at r.0 k, r.1, seat_at r.1 r.0 c.args.slots.now k c.loop-k.all c.index-slots-k.result c.index-all-k.result cut there c.index-slots-k.is)

pub loop-k-preserved : goal.loop-k-preserved
loop-k-preserved c =
    let inv = c.loop-k.invariant in
    let slots = c.args.slots.now in
    let all = c.loop-k.all in
    let seats = c.loop-k.seats.items in
    let k = c.loop-k.k in
    let slot = c.index-slots-k.result in
    let len : length seats ≡ k = omega (arith, inv.len, c.loop-k.seats.ok.0) in record {
      cut = λ inbox cs row.
          let cut = inv.cut inbox cs row in
          let there : k < length all = omega (arith, cut.one_each, c.loop-k-test.true, c.loop-k.auto.k-end) in
          let rest = c.first_seat-seat.ensures.rest (book_at inbox k) cs
          (seat_at cs inbox slots k all slot c.index-all-k.result cut there c.index-slots-k.is) in
          one_cut cs inbox slots k all c.first_seat-seat.new.all cut (omega (arith, cut.one_each))
          (at_any (drop 1 cs) (book_at inbox k) slots k slot c.first_seat-seat.new.all c.index-slots-k.is (omega (arith, cut.one_each)) rest);
      new = λ inbox cs row.
          let cut = inv.cut inbox cs row in
          let there : k < length all = omega (arith, cut.one_each, c.loop-k-test.true, c.loop-k.auto.k-end) in
          let first = c.first_seat-seat.ensures.first (book_at inbox k) cs
          (seat_at cs inbox slots k all slot c.index-all-k.result cut there c.index-slots-k.is) in
          subst (AreNew (take 1 cs) inbox slots) (sym c.push_reserved.ensures.items)
          (one_new (take 1 cs) inbox slots seats c.first_seat-seat.result (inv.new inbox cs row)
          (subst (λ (n : ℕ). (d : _) → IsNewSeat (take 1 cs) (book_at inbox n) (get_or slots n d) c.first_seat-seat.result) (sym len)
          (at_any (take 1 cs) (book_at inbox k) slots k slot c.first_seat-seat.result c.index-slots-k.is (omega (arith, cut.one_each)) first)));
      len = omega (arith, inv.len, c.push_reserved.ensures.len);
      capacity = omega (arith, inv.capacity, c.push_reserved.ensures.capacity);
    }

pub returns-clause-rest : goal.returns-clause-rest
returns-clause-rest c inbox cs row =
    let inv = c.loop-k.invariant in
    let cut = inv.cut inbox cs row in
    all_cut cs inbox c.args.slots.now c.loop-k.k c.loop-k.all cut (omega (arith, c.loop-k-test.false, c.loop-k.auto.k-end))

pub returns-clause-first : goal.returns-clause-first
returns-clause-first c inbox cs row =
    let inv = c.loop-k.invariant in
    (omega (arith, inv.len, c.loop-k.seats.ok.0, c.loop-k-test.false, c.loop-k.auto.k-end), inv.new inbox cs row)
