use Rattle.std.proofs.Common.{◌≡◌, ◌+◌, ℕ, length, sym, ap, subst, arith}
use Rattle.trau_num.proofs.Lists.{each_snoc}
use Rattle.farm_live.specs.declared.live.Closed.{Closed}
use Rattle.farm_live.specs.Closing.{AreClosedTo, IsClosedBy, views_at}
use Rattle.farm_live.proofs.Joining.{all_left, fewer_left, left_at, closed_by}
use Rattle.farm_live.proofs.closing.close_all.Goals as goal

pub loop-k-init : goal.loop-k-init
loop-k-init g c = record {
  left = λ inbox cs joined. all_left inbox c.args.slots.now cs c.args.all.now.seats.items joined;
  closed = λ inbox cs joined. subst (AreClosedTo cs) (sym c.requires.room.0) (λ k d h. absurd (omega arith));
  len = omega (arith, ap length c.requires.room.0, c.args.closed.ok.0);
  capacity = c.requires.room.1;
}

pub close_call-done-requires-clause-slot : goal.close_call-done-requires-clause-slot
close_call-done-requires-clause-slot g c =
    let r = c.requires.joined in
    let left = c.loop-k.invariant.left r.0 r.1 r.2 in
    let j = left_at r.0 c.args.slots.now r.1 c.loop-k.k c.loop-k.all.seats.items c.index-slots-k.result c.index_mut.result.now left
    (omega (arith, c.loop-k-test.true, c.loop-k.auto.k-end)) c.index-slots-k.is c.index_mut.ensures.value in
    (j.pass, j.capacity)

pub close_call-done-requires-clause-free : goal.close_call-done-requires-clause-free
close_call-done-requires-clause-free g c =
    let r = c.requires.joined in
    let left = c.loop-k.invariant.left r.0 r.1 r.2 in
    (left_at r.0 c.args.slots.now r.1 c.loop-k.k c.loop-k.all.seats.items c.index-slots-k.result c.index_mut.result.now left
    (omega (arith, c.loop-k-test.true, c.loop-k.auto.k-end)) c.index-slots-k.is c.index_mut.ensures.value).free

pub close_call-done-requires-clause-some : goal.close_call-done-requires-clause-some
close_call-done-requires-clause-some g c =
    let r = c.requires.joined in
    let left = c.loop-k.invariant.left r.0 r.1 r.2 in
    (left_at r.0 c.args.slots.now r.1 c.loop-k.k c.loop-k.all.seats.items c.index-slots-k.result c.index_mut.result.now left
    (omega (arith, c.loop-k-test.true, c.loop-k.auto.k-end)) c.index-slots-k.is c.index_mut.ensures.value).some

pub index_mut-requires : goal.index_mut-requires
index_mut-requires g c =
    let r = c.requires.joined in
    let left = c.loop-k.invariant.left r.0 r.1 r.2 in
    omega (arith, left.one_each, c.loop-k-test.true, c.loop-k.auto.k-end, c.loop-k.all.seats.ok.0)

pub loop-k-preserved : goal.loop-k-preserved
loop-k-preserved g c =
    let inv = c.loop-k.invariant in
    let slots = c.args.slots.now in
    let k = c.loop-k.k in
    let ds = c.loop-k.closed.items in
    let at : k ≡ length ds = omega (arith, inv.len, c.loop-k.closed.ok.0) in record {
      left = λ inbox cs joined. fewer_left inbox slots cs k c.loop-k.all.seats.items c.close_call-done.new.seat (inv.left inbox cs joined);
      closed = λ inbox cs joined.
          let j = left_at inbox slots cs k c.loop-k.all.seats.items c.index-slots-k.result c.index_mut.result.now (inv.left inbox cs joined)
          (omega (arith, c.loop-k-test.true, c.loop-k.auto.k-end)) c.index-slots-k.is c.index_mut.ensures.value in
          let new = closed_by inbox c.index-slots-k.result (views_at k cs) c.index_mut.result.now k c.close_call-done.result j c.close_call-done.ensures in
          subst (AreClosedTo cs) (sym c.push_reserved.ensures.items)
          (each_snoc (λ (i : ℕ) (x : Closed). IsClosedBy (i + 1) (views_at i cs) x) ds c.close_call-done.result (inv.closed inbox cs joined)
          (subst (λ (i : ℕ). IsClosedBy (i + 1) (views_at i cs) c.close_call-done.result) at new));
      len = omega (arith, inv.len, c.push_reserved.ensures.len);
      capacity = omega (arith, inv.capacity, c.push_reserved.ensures.capacity);
    }

pub returns : goal.returns
returns g c = λ inbox cs joined.
    let inv = c.loop-k.invariant in
    (omega (arith, inv.len, c.loop-k.closed.ok.0, c.loop-k-test.false, c.loop-k.auto.k-end), inv.closed inbox cs joined)
