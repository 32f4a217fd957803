use Rattle.std.proofs.Common.{◌≡◌, ◌<◌, ◌+◌, ◌-◌, ℕ, List, [], ◌∷◌, length, take, drop, get_or, refl, sym, ap, subst, length-append, arith}
use Rattle.trau_num.proofs.Lists.{each_snoc, written_back}
use Rattle.farm_live.specs.declared.live.Seat.{Seat}
use Rattle.farm_live.specs.declared.live.Caller.{Caller}
use Rattle.farm_live.specs.Slot.{all_callers}
use Rattle.farm_live.specs.Live.{IsNewRow, IsNewCaller}
use Rattle.farm_live.proofs.NewFarm.{drop_next, caller_is, first_is, left_is, first_numbers, last_numbers}
use Rattle.farm_live.proofs.opening.seat_all.Goals as goal

pub first_row-requires : goal.first_row-requires
first_row-requires c =
    let s = c.requires.seats in
    let n = c.loop-number.number in (
      s.0,
      drop n all_callers,
      subst (λ (xs : List Seat). IsNewRow (drop n all_callers) s.0 c.args.slots.now xs) (sym c.as_mut_slice.ensures.value)
          (c.loop-number.invariant.left s.0 s.1),
    )

pub loop-number-preserved : goal.loop-number-preserved
loop-number-preserved c =
    let inv = c.loop-number.invariant in
    let n = c.loop-number.number in
    let slots = c.args.slots.now in
    let callers = c.args.callers in
    let all = c.first_row.new.all in
    let rows = c.loop-number.rows.items in
    let caller : Caller = record { number = n; seats = c.in_ok-seats.seats } in
    let given = λ (inbox : ℕ) (row : IsNewRow all_callers inbox slots c.args.all.items).
    subst (λ (xs : List Seat). IsNewRow (drop n all_callers) inbox slots xs) (sym c.as_mut_slice.ensures.value) (inv.left inbox row) in record {
      left = λ inbox row.
          let was = inv.left inbox row in
          let rest = c.in_ok-seats.ensures.rest inbox (drop n all_callers) (given inbox row) in
          let len : length all ≡ c.loop-number.all.len = omega (arith, rest.0, was.0, c.loop-number.all.ok.0) in
          let back = written_back all (drop (length all) c.loop-number.all.items) c.loop-number.all.len len in
          subst (λ (xs : List Seat). IsNewRow (drop (n + 1) all_callers) inbox slots xs) (sym back)
          (subst (λ (ds : List ℕ). IsNewRow ds inbox slots all) (drop_next n) rest);
      rows = λ inbox row.
          let first = c.in_ok-seats.ensures.first inbox (drop n all_callers) (given inbox row) in
          let new : IsNewCaller inbox callers n slots caller =
          caller_is inbox callers n slots caller (take 1 (drop n all_callers)) refl
          (first_numbers callers n (omega (arith, c.loop-number-test.true, c.requires.some)))
          (first_is n (omega (arith, c.loop-number-test.true, c.requires.few))) first in
          let at : n ≡ length rows = omega (arith, inv.len, c.loop-number.rows.ok.0) in
          subst (λ (rs : List Caller). (i : ℕ) (d : Caller) → i < length rs → IsNewCaller inbox callers i slots (get_or rs i d))
          (sym c.push_reserved.ensures.items)
          (each_snoc (λ (i : ℕ) (x : Caller). IsNewCaller inbox callers i slots x) rows caller (inv.rows inbox row)
          (subst (λ (i : ℕ). IsNewCaller inbox callers i slots caller) at new));
      len = omega (arith, inv.len, c.push_reserved.ensures.len);
      capacity = omega (arith, inv.capacity, c.push_reserved.ensures.capacity);
    }

pub returns : goal.returns
returns c inbox row =
    let inv = c.loop-number.invariant in
    let slots = c.args.slots.now in
    let callers = c.args.callers in
    let rows = c.loop-number.rows.items in
    let last = callers - 1 in
    let n : c.loop-number.number ≡ last = omega (arith, c.loop-number-test.false, c.loop-number.auto.number-end) in
    let caller : Caller = record { number = last; seats = c.loop-number.all } in
    let left = subst (λ (i : ℕ). IsNewRow (drop i all_callers) inbox slots c.loop-number.all.items) n (inv.left inbox row) in
    let new : IsNewCaller inbox callers last slots caller =
    caller_is inbox callers last slots caller (drop last all_callers) refl (last_numbers callers last (omega (arith, c.requires.some)))
    (left_is last (omega (arith, c.requires.some, c.requires.few))) left in
    let at : last ≡ length rows = omega (arith, n, inv.len, c.loop-number.rows.ok.0) in
    let each = subst (λ (rs : List Caller). (i : ℕ) (d : Caller) → i < length rs → IsNewCaller inbox callers i slots (get_or rs i d))
    (sym c.push_reserved-2.ensures.items)
    (each_snoc (λ (i : ℕ) (x : Caller). IsNewCaller inbox callers i slots x) rows caller (inv.rows inbox row)
    (subst (λ (i : ℕ). IsNewCaller inbox callers i slots caller) at new)) in
    let count : length c.push_reserved-2.new.self.items ≡ callers = omega (
      arith,
      ap length c.push_reserved-2.ensures.items,
      length-append rows
          (caller ∷ []),
      at,
      c.requires.some,
    ) in record {
      count = count;
      each = λ i d h. each i d (omega (arith, count));
    }
