use Rattle.std.proofs.Common.{arith}
use Rattle.farm_rounds.proofs.Places.Empty.{farm_new, none_open, none_stand}
use Rattle.farm_rounds.proofs.Failed.Acts.{none_failed}
use Rattle.farm_rounds.proofs.farm.Farm.new.Goals as goal

pub invariant_of-result : goal.invariant_of-result
invariant_of-result c = (
  none_open _ _ c.new-2.ensures.items c.new.ensures.items,
  omega (arith, c.in_ok-vec.ensures.len),
  none_failed _ _ c.new-3.ensures.items c.new.ensures.items,
)

pub returns-clause-value : goal.returns-clause-value
returns-clause-value c = farm_new _ _ _ _ c.new.ensures.items c.new-2.ensures.items (c.in_ok-vec.ensures.items_if_clones_equal (λ y h. h)) c.new-3.ensures.items

pub returns-clause-history : goal.returns-clause-history
returns-clause-history c = none_stand _ c.new.ensures.items
