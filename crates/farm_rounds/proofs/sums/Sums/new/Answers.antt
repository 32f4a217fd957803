use Rattle.farm_rounds.proofs.Drain.Sums.{no_sum}
use Rattle.farm_rounds.proofs.sums.Sums.new.Goals as goal

pub returns : goal.returns
returns c = no_sum 16388 _ (c.in_ok-vec.ensures.items_if_clones_equal (λ y h. h))
