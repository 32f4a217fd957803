use Rattle.std.proofs.Common.{◌≡◌, ◌<◌, ◌+◌, ◌∷◌, [], length, sym, ap, ◌∙◌, subst, append-nil, length-append, slice_set, arith}
use Rattle.farm_live.specs.Closing.{AreHalfJoined}
use Rattle.farm_live.proofs.Joining.{none_joined, all_joined, joined_at, ready_at, popped, last_is, last-lt}
use Rattle.farm_live.proofs.closing.join.Goals as goal

pub loop-seat-init : goal.loop-seat-init
loop-seat-init c = (
  [],
  sym (append-nil c.args.other.seats.items),
  λ inbox cs joined seated. none_joined inbox c.args.slots.now cs c.args.other (length c.args.other.seats.items) c.args.first.now.seats.items joined
      (omega (arith, seated.one_each)),
)

pub bounds-slots-k : goal.bounds-slots-k
bounds-slots-k c =
    let r = c.requires in
    let inv = c.loop-seat.invariant in
    let new = c.pop.new.self.items in
    let whole = popped new inv.0 c.args.other.seats.items c.loop-seat.seats.items c.in-Some.seat inv.1 c.in-Some.ensures.items in
    let there = last-lt new inv.0 c.args.other.seats.items c.in-Some.seat c.len-k.result whole (omega (arith, c.len-k.ensures, c.pop.new.self.ok.0)) in
    omega (arith, there, r.3.one_each)

pub index_mut-requires : goal.index_mut-requires
index_mut-requires c =
    let r = c.requires in
    let inv = c.loop-seat.invariant in
    let half = inv.2 r.0 r.1 r.2 r.3 in
    let len = length-append c.pop.new.self.items (c.in-Some.seat ∷ []) in
    let whole = popped c.pop.new.self.items inv.0 c.args.other.seats.items c.loop-seat.seats.items c.in-Some.seat inv.1 c.in-Some.ensures.items in
    let there = last-lt c.pop.new.self.items inv.0 c.args.other.seats.items c.in-Some.seat c.len-k.result whole
    (omega (arith, c.len-k.ensures, c.pop.new.self.ok.0)) in
    omega (arith, there, half.one_each, r.3.one_each, c.loop-seat.first.seats.ok.0)

pub join_seat-requires-clause-slot : goal.join_seat-requires-clause-slot
join_seat-requires-clause-slot c =
    let r = c.requires in
    let inv = c.loop-seat.invariant in
    let k = c.len-k.result in
    let new = c.pop.new.self.items in
    let at : k ≡ length new = omega (arith, c.len-k.ensures, c.pop.new.self.ok.0) in
    let whole = popped new inv.0 c.args.other.seats.items c.loop-seat.seats.items c.in-Some.seat inv.1 c.in-Some.ensures.items in
    let more : length c.loop-seat.seats.items ≡ k + 1 = omega (arith, ap length c.in-Some.ensures.items, length-append new (c.in-Some.seat ∷ []), at) in
    let half = subst (λ n. AreHalfJoined r.0 c.args.slots.now r.1 c.args.other n c.loop-seat.first.seats.items) more (inv.2 r.0 r.1 r.2 r.3) in
    let there : k < length c.args.slots.now = omega (arith, last-lt new inv.0 c.args.other.seats.items c.in-Some.seat k whole at, r.3.one_each) in
    let ready = ready_at r.0 c.args.slots.now r.1 c.args.other k c.loop-seat.first.seats.items c.index-slots-k.result c.index_mut.result.now c.in-Some.seat half
    r.3 there c.index-slots-k.is c.index_mut.ensures.value
    (last_is new inv.0 c.args.other.seats.items c.in-Some.seat k whole at) in
    (ready.0.pass, ready.1.pass)

pub join_seat-requires-clause-free : goal.join_seat-requires-clause-free
join_seat-requires-clause-free c =
    let r = c.requires in
    let inv = c.loop-seat.invariant in
    let k = c.len-k.result in
    let new = c.pop.new.self.items in
    let at : k ≡ length new = omega (arith, c.len-k.ensures, c.pop.new.self.ok.0) in
    let whole = popped new inv.0 c.args.other.seats.items c.loop-seat.seats.items c.in-Some.seat inv.1 c.in-Some.ensures.items in
    let more : length c.loop-seat.seats.items ≡ k + 1 = omega (arith, ap length c.in-Some.ensures.items, length-append new (c.in-Some.seat ∷ []), at) in
    let half = subst (λ n. AreHalfJoined r.0 c.args.slots.now r.1 c.args.other n c.loop-seat.first.seats.items) more (inv.2 r.0 r.1 r.2 r.3) in
    let there : k < length c.args.slots.now = omega (arith, last-lt new inv.0 c.args.other.seats.items c.in-Some.seat k whole at, r.3.one_each) in
    (ready_at r.0 c.args.slots.now r.1 c.args.other k c.loop-seat.first.seats.items c.index-slots-k.result c.index_mut.result.now c.in-Some.seat half r.3 there
    c.index-slots-k.is c.index_mut.ensures.value
    (last_is new inv.0 c.args.other.seats.items c.in-Some.seat k whole at)).1.free

pub join_seat-requires-clause-same : goal.join_seat-requires-clause-same
join_seat-requires-clause-same c =
    let r = c.requires in
    let inv = c.loop-seat.invariant in
    let k = c.len-k.result in
    let new = c.pop.new.self.items in
    let at : k ≡ length new = omega (arith, c.len-k.ensures, c.pop.new.self.ok.0) in
    let whole = popped new inv.0 c.args.other.seats.items c.loop-seat.seats.items c.in-Some.seat inv.1 c.in-Some.ensures.items in
    let more : length c.loop-seat.seats.items ≡ k + 1 = omega (arith, ap length c.in-Some.ensures.items, length-append new (c.in-Some.seat ∷ []), at) in
    let half = subst (λ n. AreHalfJoined r.0 c.args.slots.now r.1 c.args.other n c.loop-seat.first.seats.items) more (inv.2 r.0 r.1 r.2 r.3) in
    let there : k < length c.args.slots.now = omega (arith, last-lt new inv.0 c.args.other.seats.items c.in-Some.seat k whole at, r.3.one_each) in
    let ready = ready_at r.0 c.args.slots.now r.1 c.args.other k c.loop-seat.first.seats.items c.index-slots-k.result c.index_mut.result.now c.in-Some.seat half
    r.3 there c.index-slots-k.is c.index_mut.ensures.value
    (last_is new inv.0 c.args.other.seats.items c.in-Some.seat k whole at) in
    ready.0.is_of ∙ sym ready.1.is_of

pub loop-seat-preserved : goal.loop-seat-preserved
loop-seat-preserved c =
    let inv = c.loop-seat.invariant in
    let slots = c.args.slots.now in
    let k = c.len-k.result in
    let new = c.pop.new.self.items in
    let u = c.in-Some.seat in
    let other = c.args.other in
    let first = c.loop-seat.first.seats.items in
    let at : k ≡ length new = omega (arith, c.len-k.ensures, c.pop.new.self.ok.0) in
    let whole = popped new inv.0 other.seats.items c.loop-seat.seats.items u inv.1 c.in-Some.ensures.items in
    let more : length c.loop-seat.seats.items ≡ k + 1 = omega (arith, ap length c.in-Some.ensures.items, length-append new (u ∷ []), at) in (
      u ∷ inv.0,
      whole,
      λ inbox cs joined seated.
          let half = subst (λ n. AreHalfJoined inbox slots cs other n first) more (inv.2 inbox cs joined seated) in
          let there : k < length slots = omega (arith, last-lt new inv.0 other.seats.items u k whole at, seated.one_each) in
          subst (λ n. AreHalfJoined inbox slots cs other n (slice_set first k c.join_seat.new.first)) at
          (joined_at inbox slots cs other k first c.index-slots-k.result c.index_mut.result.now c.join_seat.new.first u half seated there c.index-slots-k.is
          c.index_mut.ensures.value
          (last_is new inv.0 other.seats.items u k whole at) c.join_seat.ensures.slot c.join_seat.ensures.both),
    )

pub returns : goal.returns
returns c = λ inbox cs joined seated.
    let inv = c.loop-seat.invariant in
    let none : length c.loop-seat.seats.items ≡ 0 = omega (arith, c.in_default.ensures.cases.0, c.loop-seat.seats.ok.0) in
    all_joined inbox c.args.slots.now cs c.args.other c.loop-seat.first.seats.items
    (subst (λ n. AreHalfJoined inbox c.args.slots.now cs c.args.other n c.loop-seat.first.seats.items) none (inv.2 inbox cs joined seated))
