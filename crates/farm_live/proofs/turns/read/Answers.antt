use Rattle.std.proofs.Common.{find, refl, sym, ap, ◌∙◌}
use Rattle.crossbeam_queue.specs.Passes.{view}
use Rattle.farm_live.specs.Book.{is_of_post}
use Rattle.farm_live.proofs.Taking.{may_same}
use Rattle.farm_live.proofs.Turning.{may_give, held_as, looked_at}
use Rattle.farm_live.proofs.turns.read.Goals as goal

pub give_back-requires-clause-may : goal.give_back-requires-clause-may
give_back-requires-clause-may g c =
    let v = view c.args.me.now in
    let taken = c.in-Some.ensures.taken in
    may_give v (view c.take_or_miss.new.me) c.in-Some.book c.in-Some.book taken.1
    (may_same v c.in-Some.book (held_as v (view c.take_or_miss.new.me) c.in-Some.book taken.1 taken.0))

pub returns-in-Some-found-clause-did : goal.returns-in-Some-found-clause-did
returns-in-Some-found-clause-did g c =
    let b = c.in-Some.book in
    let taken = c.in-Some.ensures.taken in
    let looked =
    looked_at (view c.args.me.now) (view c.take_or_miss.new.me) (view c.give_back.new.me) b b taken.1 taken.0 refl c.give_back.ensures.given in
    (looked.0, ap (λ k. find (is_of_post c.args.of c.args.number) k.history) looked.1 ∙ sym c.find-found.ensures ∙ c.in-Some-found.is)

pub returns-in-None-clause-did : goal.returns-in-None-clause-did
returns-in-None-clause-did g c =
    let b = c.in-Some.book in
    let taken = c.in-Some.ensures.taken in
    let looked =
    looked_at (view c.args.me.now) (view c.take_or_miss.new.me) (view c.give_back.new.me) b b taken.1 taken.0 refl c.give_back.ensures.given in
    (looked.0, ap (λ k. find (is_of_post c.args.of c.args.number) k.history) looked.1 ∙ sym c.find-found.ensures ∙ c.in-None.is)
