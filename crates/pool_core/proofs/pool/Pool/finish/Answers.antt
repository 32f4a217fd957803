use Rattle.std.proofs.Common.{◌<◌, ◌∙◌, sym, ap, subst, Some, None, length, set, arith}
use Rattle.pool_core.specs.Machine.{PoolState, hand, completed}
use Rattle.pool_core.specs.Waiting.{IsPool, pool_state}
use Rattle.pool_core.proofs.Pools.{done_room, hand_at, completed_pool, completed_state}
use Rattle.pool_core.proofs.pool.Pool.finish.Goals as goal

pub push_reserved-requires : goal.push_reserved-requires
push_reserved-requires c =
    let i = c.self.inside in
    let worker = subst (λ (s : PoolState). c.args.worker < length s.hands) (sym c.self.view_is) c.requires in
    let held = hand_at i.hands.items c.args.worker c.index.result.now (Some c.in-Some.job) worker c.index.ensures c.in-Some.is in
    omega (
      arith,
      done_room i.lens.items i.places.items i.waiting.items i.hands.items i.finished.items c.args.worker c.in-Some.job c.self.invariant.0 worker
          held,
      i.finished.ok.0,
      c.self.invariant.2,
    )

pub invariant_of-self : goal.invariant_of-self
invariant_of-self c =
    let i = c.self.inside in
    let worker = subst (λ (s : PoolState). c.args.worker < length s.hands) (sym c.self.view_is) c.requires in
    let held = hand_at i.hands.items c.args.worker c.index.result.now (Some c.in-Some.job) worker c.index.ensures c.in-Some.is in (
      subst (IsPool i.lens.items i.places.items i.waiting.items (set i.hands.items c.args.worker None)) (sym c.push_reserved.ensures.items)
          (completed_pool i.lens.items i.places.items i.waiting.items i.hands.items i.finished.items c.args.worker c.in-Some.job c.self.invariant.0 worker held),
      c.self.invariant.1,
      omega (arith, c.push_reserved.ensures.capacity, c.self.invariant.2),
    )

pub returns : goal.returns
returns c =
    let i = c.self.inside in
    let worker = subst (λ (s : PoolState). c.args.worker < length s.hands) (sym c.self.view_is) c.requires in
    let held = hand_at i.hands.items c.args.worker c.index.result.now (Some c.in-Some.job) worker c.index.ensures c.in-Some.is in
    ap (pool_state i.lens.items i.places.items i.waiting.items (set i.hands.items c.args.worker None)) c.push_reserved.ensures.items
    ∙ completed_state i.lens.items i.places.items i.waiting.items i.hands.items i.finished.items c.args.worker c.in-Some.job held
    ∙ ap (λ (s : PoolState). completed s c.args.worker (hand s c.args.worker)) c.self.view_is
