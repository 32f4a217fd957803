use Rattle.std.proofs.Common.{◌<◌, sym, ap, ◌∙◌, subst}
use Rattle.crossbeam_queue.specs.Passes.{view}
use Rattle.farm_live.specs.declared.slot.View.{View}
use Rattle.farm_live.specs.Slot.{times, HasMissed}
use Rattle.farm_live.proofs.turns.take_or_miss.Goals as goal

pub take_book-requires-clause-free : goal.take_book-requires-clause-free
take_book-requires-clause-free g c = ap (λ (v : View). v.holds) c.loop.invariant.1 ∙ c.requires.free

pub take_book-requires-clause-some : goal.take_book-requires-clause-some
take_book-requires-clause-some g c =
    let some = c.requires.some in
    (some.0, subst (λ (v : View). 0 < times some.0 v.callers) (sym c.loop.invariant.1) some.1)

pub returns-in-Busy-clause-taken : goal.returns-in-Busy-clause-taken
returns-in-Busy-clause-taken g c = subst (λ (v : View). HasMissed v (view c.take_book.new.me)) c.loop.invariant.1 c.in-Busy.ensures.taken

pub loop-preserved : goal.loop-preserved
loop-preserved g c =
    let now = c.in-Again.ensures in
    let old = c.loop.invariant in
    ((now.slot.0 ∙ old.0.0, now.slot.1 ∙ old.0.1, now.slot.2 ∙ old.0.2), now.taken ∙ old.1)
