use Rattle.std.proofs.Common.{ℕ, ◌<◌, List, sym, subst}
use Rattle.farm_live.specs.Slot.{times}
use Rattle.farm_live.proofs.turns.close.Goals as goal

pub take_book-requires-clause-some : goal.take_book-requires-clause-some
take_book-requires-clause-some g c =
    let some = c.requires.some in
    (some.0, subst (λ (cs : List ℕ). 0 < times some.0 cs) (sym c.loop.invariant.2) some.1)
