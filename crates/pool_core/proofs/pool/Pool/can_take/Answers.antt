use Rattle.std.proofs.Common.{◌≡◌, ◌<◌, ◌∙◌, refl, sym, ap, subst, List, [], length}
use Rattle.std.specs.Prelude.{is_none, is_some, IfSome, false}
use Rattle.pool_core.specs.declared.pool.Waiting.{Waiting}
use Rattle.pool_core.specs.Machine.{PoolState, can_take}
use Rattle.pool_core.specs.Waiting.{jobs_of, IsFront}
use Rattle.pool_core.proofs.Pools.{can_take_is, hand_at, none_free}
use Rattle.pool_core.proofs.pool.Pool.can_take.Goals as goal

pub returns-then-is_none : goal.returns-then-is_none
returns-then-is_none c =
    let i = c.self.inside in
    let w = subst (λ (s : PoolState). c.args.worker < length s.hands) (sym c.self.view_is) c.requires.worker in
    let v = subst (λ (s : PoolState). c.args.victim < length s.hands) (sym c.self.view_is) c.requires.victim in
    let free = ap is_none (hand_at i.hands.items c.args.worker c.index.result.now c.index.result.now w c.index.ensures refl)
    ∙ none_free c.index.result.now c.is_none.result c.is_none.ensures c.if-is_none.true in
    c.is_some.ensures
    ∙ can_take_is i.lens.items i.places.items i.waiting.items i.hands.items i.finished.items c.args.worker c.args.victim c.front.result free v
    (subst (λ (ws : List Waiting). IfSome c.front.result (λ i. IsFront ws c.args.victim i)) c.deref.ensures.value c.front.ensures.found)
    (subst (λ (ws : List Waiting). is_some c.front.result ≡ false → jobs_of ws c.args.victim ≡ []) c.deref.ensures.value c.front.ensures.none)
    ∙ ap (λ (s : PoolState). can_take s c.args.worker c.args.victim) c.self.view_is
