use Rattle.std.proofs.Common.{length, ap, arith}
use Rattle.pool_core.proofs.Pools.{new_pool_by, new_state_by}
use Rattle.pool_core.proofs.pool.Pool.new.Goals as goal

pub invariant_of-result : goal.invariant_of-result
invariant_of-result c =
    let e = c.in_ok-to_vec.ensures.items_if_clones_equal (λ x y h. h) in (
      new_pool_by c.args.lens.now c.in_ok-to_vec.field-0.items c.in_ok-vec.field-0.items c.in_ok-deal.field-0.items c.in_ok-empty_hands.field-0.items
          c.in_ok-with_capacity.field-0.items c.args.workers e
          (c.in_ok-vec.ensures.items_if_clones_equal (λ y h. h)) c.in_ok-empty_hands.ensures c.in_ok-with_capacity.ensures.items
          c.requires.some c.requires.few c.in_ok-deal.ensures.dealt c.in_ok-deal.ensures.owned,
      omega (arith, ap length e, c.in_ok-deal.ensures.room),
      omega (arith, ap length e, c.in_ok-with_capacity.ensures.exact),
    )

pub returns : goal.returns
returns c =
    new_state_by c.args.lens.now c.in_ok-to_vec.field-0.items c.in_ok-vec.field-0.items c.in_ok-deal.field-0.items c.in_ok-empty_hands.field-0.items
    c.in_ok-with_capacity.field-0.items c.args.workers (c.in_ok-to_vec.ensures.items_if_clones_equal (λ x y h. h))
    (c.in_ok-vec.ensures.items_if_clones_equal (λ y h. h)) c.in_ok-empty_hands.ensures c.in_ok-with_capacity.ensures.items c.in_ok-deal.ensures.dealt
