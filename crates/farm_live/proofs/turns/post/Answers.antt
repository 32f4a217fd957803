use Rattle.std.proofs.Common.{◌≡◌, true, false, sym, subst, ⊎_elim}
use Rattle.std.proofs.lemmas.Bool.{cases_Bool}
use Rattle.crossbeam_queue.specs.Passes.{view}
use Rattle.farm_live.specs.Slot.{May, took}
use Rattle.farm_live.proofs.Taking.{may_same, may_post}
use Rattle.farm_live.proofs.Turning.{may_give, held_as, posted_at, full_at}
use Rattle.farm_live.proofs.turns.post.Goals as goal

pub give_back-requires-clause-may : goal.give_back-requires-clause-may
give_back-requires-clause-may g c =
    let v = view c.args.me.now in
    let b = c.in-Some.book in
    let taken = c.in-Some.ensures.taken in
    let h = held_as v (view c.take_or_miss.new.me) b taken.1 taken.0 in
    may_give v (view c.take_or_miss.new.me) b c.post-done.new.self taken.1
    (⊎_elim (λ (e : c.post-done.result ≡ true). subst (May (took v b)) (sym (c.post-done.ensures.ok e))
    (may_post v b c.args.x h c.requires.caller c.requires.number c.requires.few))
    (λ (e : c.post-done.result ≡ false). subst (May (took v b)) (sym (c.post-done.ensures.full e).0) (may_same v b h)) (cases_Bool c.post-done.result))

pub returns-then-done-clause-did : goal.returns-then-done-clause-did
returns-then-done-clause-did g c =
    let taken = c.in-Some.ensures.taken in
    posted_at (view c.args.me.now) (view c.take_or_miss.new.me) (view c.give_back.new.me) c.in-Some.book c.post-done.new.self c.args.x taken.1 taken.0
    (c.post-done.ensures.ok c.if-done.true) c.give_back.ensures.given (c.post-done.ensures.room.0 c.if-done.true)

pub returns-else-done-clause-did : goal.returns-else-done-clause-did
returns-else-done-clause-did g c =
    let taken = c.in-Some.ensures.taken in
    let full = c.post-done.ensures.full c.if-done.false in
    full_at (view c.args.me.now) (view c.take_or_miss.new.me) (view c.give_back.new.me) c.in-Some.book c.post-done.new.self taken.1 taken.0 full.0
    c.give_back.ensures.given full.1
