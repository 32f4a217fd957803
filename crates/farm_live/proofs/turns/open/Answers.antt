use Rattle.std.proofs.Common.{◌∙◌}
use Rattle.crossbeam_queue.specs.Passes.{view}
use Rattle.farm_live.proofs.Turning.{may_first_at, opened_at}
use Rattle.farm_live.proofs.turns.open.Goals as goal

pub give_back-requires-clause-may : goal.give_back-requires-clause-may
give_back-requires-clause-may g c = may_first_at (view c.in_ok-slot.me) c.in_ok-book.book c.args.is_of c.in_ok-slot.ensures.2 c.in_ok-book.ensures

pub returns : goal.returns
returns g c = (
  (c.give_back.ensures.slot.0 ∙ c.in_ok-slot.ensures.0.0, c.give_back.ensures.slot.2 ∙ c.in_ok-slot.ensures.0.1),
  c.in_ok-slot.ensures.1,
  opened_at (view c.in_ok-slot.me) (view c.give_back.new.me) c.in_ok-book.book c.args.is_of c.in_ok-slot.ensures.2 c.in_ok-book.ensures
      c.give_back.ensures.given,
)
