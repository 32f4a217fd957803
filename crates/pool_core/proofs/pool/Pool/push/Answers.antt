use Rattle.std.proofs.Common.{◌<◌, ◌∙◌, sym, ap, subst, Some, None, List, length, set, arith}
use Rattle.pool_core.specs.declared.pool.Waiting.{Waiting}
use Rattle.pool_core.specs.Machine.{PoolState, hand, pushed}
use Rattle.pool_core.specs.Waiting.{IsPool, pool_state}
use Rattle.pool_core.proofs.Pools.{room, hand_at, pushed_pool, pushed_state}
use Rattle.pool_core.proofs.pool.Pool.push.Goals as goal

pub push_reserved-requires : goal.push_reserved-requires
push_reserved-requires c =
    let i = c.self.inside in
    let worker = subst (λ (s : PoolState). c.args.worker < length s.hands) (sym c.self.view_is) c.requires in
    let held = hand_at i.hands.items c.args.worker c.index.result.now (Some c.in-Some.job) worker c.index.ensures c.in-Some.is in
    omega (
      arith,
      room i.lens.items i.places.items i.waiting.items i.hands.items i.finished.items c.args.worker c.in-Some.job c.self.invariant.0 worker
          held,
      i.waiting.ok.0,
      c.self.invariant.1,
    )

pub invariant_of-self : goal.invariant_of-self
invariant_of-self c =
    let i = c.self.inside in
    let worker = subst (λ (s : PoolState). c.args.worker < length s.hands) (sym c.self.view_is) c.requires in
    let held = hand_at i.hands.items c.args.worker c.index.result.now (Some c.in-Some.job) worker c.index.ensures c.in-Some.is in (
      subst (λ (ws : List Waiting). IsPool i.lens.items i.places.items ws (set i.hands.items c.args.worker None) i.finished.items)
          (sym c.push_reserved.ensures.items)
          (pushed_pool i.lens.items i.places.items i.waiting.items i.hands.items i.finished.items c.args.worker c.in-Some.job c.self.invariant.0 worker held),
      omega (arith, c.push_reserved.ensures.capacity, c.self.invariant.1),
      c.self.invariant.2,
    )

pub returns : goal.returns
returns c =
    let i = c.self.inside in
    let worker = subst (λ (s : PoolState). c.args.worker < length s.hands) (sym c.self.view_is) c.requires in
    let held = hand_at i.hands.items c.args.worker c.index.result.now (Some c.in-Some.job) worker c.index.ensures c.in-Some.is in
    ap (λ (ws : List Waiting). pool_state i.lens.items i.places.items ws (set i.hands.items c.args.worker None) i.finished.items) c.push_reserved.ensures.items
    ∙ pushed_state i.lens.items i.places.items i.waiting.items i.hands.items i.finished.items c.args.worker c.in-Some.job worker held
    ∙ ap (λ (s : PoolState). pushed s c.args.worker (hand s c.args.worker)) c.self.view_is
