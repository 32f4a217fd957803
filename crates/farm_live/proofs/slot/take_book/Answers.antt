use Rattle.farm_live.proofs.Slots.{marks, takes}
use Rattle.farm_live.proofs.slot.take_book.Goals as goal

pub force_push_as-requires-clause-push : goal.force_push_as-requires-clause-push
force_push_as-requires-clause-push g c = (marks _ _ _, λ old w took. marks _ _ w)

pub force_push_as-requires-clause-pop : goal.force_push_as-requires-clause-pop
force_push_as-requires-clause-pop g c = takes _ _ _ c.requires.slot.1 c.requires.some c.requires.free
