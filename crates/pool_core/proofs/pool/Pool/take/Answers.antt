use Rattle.std.proofs.Common.{◌≡◌, ◌<◌, ◌∙◌, refl, sym, ap, subst, Some, List, length, set, ℕ, arith}
use Rattle.std.specs.List.{remove}
use Rattle.pool_core.specs.declared.pool.Waiting.{Waiting}
use Rattle.pool_core.specs.Machine.{PoolState, deque, taken, TakesJob}
use Rattle.pool_core.specs.Waiting.{jobs_of, IsFront, IsPool, pool_state}
use Rattle.pool_core.proofs.Pools.{taken_none, taken_pool, taken_state}
use Rattle.pool_core.proofs.pool.Pool.take.Goals as goal

pub returns-in_default : goal.returns-in_default
returns-in_default c =
    let i = c.self.inside in
    let e = subst (λ (ws : List Waiting). jobs_of ws c.args.victim ≡ _) c.deref.ensures.value (c.in_default.ensures.none refl) in
    let l = subst (λ (s : PoolState). c.args.victim < length s.hands) (sym c.self.view_is) c.requires.victim in
    sym c.self.view_is ∙ taken_none i.lens.items i.places.items i.waiting.items i.hands.items i.finished.items c.args.worker c.args.victim e l
    ∙ ap (λ (s : PoolState). taken s c.args.worker c.args.victim (deque s c.args.victim)) c.self.view_is

pub invariant_of-self : goal.invariant_of-self
invariant_of-self c =
    let i = c.self.inside in
    let takes = subst (λ (s : PoolState). TakesJob s c.args.worker c.args.victim) (sym c.self.view_is) c.requires in
    let front = subst (λ (ws : List Waiting). IsFront ws c.args.victim c.in-Some.place) c.deref.ensures.value c.in-Some.ensures.found in
    let ms : List Waiting = remove i.waiting.items c.in-Some.place in
    let job = ap (λ (x : Waiting). x.job) c.remove-front.ensures.value in (
      subst (λ (ws : List Waiting). IsPool i.lens.items i.places.items ws (set i.hands.items c.args.worker (Some c.remove-front.result.job)) i.finished.items)
          (sym c.remove-front.ensures.items)
          (subst (λ (n : ℕ). IsPool i.lens.items i.places.items ms (set i.hands.items c.args.worker (Some n)) i.finished.items) (sym job)
          (taken_pool i.lens.items i.places.items i.waiting.items i.hands.items i.finished.items c.args.worker c.args.victim c.in-Some.place
          c.remove-front.result c.self.invariant.0 front takes)),
      omega (arith, c.remove-front.ensures.capacity, c.self.invariant.1),
      c.self.invariant.2,
    )

pub returns : goal.returns
returns c =
    let i = c.self.inside in
    let takes = subst (λ (s : PoolState). TakesJob s c.args.worker c.args.victim) (sym c.self.view_is) c.requires in
    let front = subst (λ (ws : List Waiting). IsFront ws c.args.victim c.in-Some.place) c.deref.ensures.value c.in-Some.ensures.found in
    let ms : List Waiting = remove i.waiting.items c.in-Some.place in
    let job = ap (λ (x : Waiting). x.job) c.remove-front.ensures.value in
    ap (λ (ws : List Waiting). pool_state i.lens.items i.places.items ws (set i.hands.items c.args.worker (Some c.remove-front.result.job)) i.finished.items)
    c.remove-front.ensures.items
    ∙ ap (λ (n : ℕ). pool_state i.lens.items i.places.items ms (set i.hands.items c.args.worker (Some n)) i.finished.items) job
    ∙ taken_state i.lens.items i.places.items i.waiting.items i.hands.items i.finished.items c.args.worker c.args.victim c.in-Some.place c.remove-front.result
    front takes.victim
    ∙ ap (λ (s : PoolState). taken s c.args.worker c.args.victim (deque s c.args.victim)) c.self.view_is
