use Rattle.std.proofs.Common.{refl, ap, ◌∙◌, arith}
use Rattle.crossbeam_queue.specs.Passes.{view}
use Rattle.farm_live.proofs.Turning.{may_give, held_as, did_at, looked_at, may_worked, worked_some, worked_none, worked_err, goes_on, placed_at}
use Rattle.farm_live.proofs.turns.work.Goals as goal

pub overflow_cast-place : goal.overflow_cast-place
overflow_cast-place g c =
    let taken = c.in-Some.ensures.taken in
    let few = goes_on c.in-Some.book (held_as (view c.args.me.now) (view c.take_or_miss.new.me) c.in-Some.book taken.1 taken.0).few in
    omega (arith, few, c.len-place.ensures)

pub work-worked-requires : goal.work-worked-requires
work-worked-requires g c =
    let taken = c.in-Some.ensures.taken in
    record { few = goes_on c.in-Some.book (held_as (view c.args.me.now) (view c.take_or_miss.new.me) c.in-Some.book taken.1 taken.0).few }

pub give_back-requires-clause-may : goal.give_back-requires-clause-may
give_back-requires-clause-may g c =
    let v = view c.args.me.now in
    let b = c.in-Some.book in
    let taken = c.in-Some.ensures.taken in
    may_give v (view c.take_or_miss.new.me) b c.work-worked.new.self taken.1
    (may_worked v b c.work-worked.new.self c.work-worked.result (held_as v (view c.take_or_miss.new.me) b taken.1 taken.0) c.work-worked.ensures.answer)

pub returns-in-Some-done-clause-did : goal.returns-in-Some-done-clause-did
returns-in-Some-done-clause-did g c =
    let taken = c.in-Some.ensures.taken in
    let v = view c.args.me.now in
    let w = view c.take_or_miss.new.me in
    let u = view c.give_back.new.me in
    let b = c.in-Some.book in
    let back = c.work-worked.new.self in
    let e = c.in-Some-done.entry in
    let worked = worked_some b back c.work-worked.result c.in-Ok.done e c.in-Ok.is c.in-Some-done.is c.work-worked.ensures.answer in (
      e,
      did_at v w u b back e taken.1 taken.0 worked c.work-worked.ensures.legal c.give_back.ensures.given,
      refl,
      refl,
      placed_at v w u b back _ taken.1 c.give_back.ensures.given c.len-place.ensures,
    )

pub returns-in-Err-clause-did : goal.returns-in-Err-clause-did
returns-in-Err-clause-did g c =
    let taken = c.in-Some.ensures.taken in
    let b = c.in-Some.book in
    let back = c.work-worked.new.self in
    (looked_at (view c.args.me.now) (view c.take_or_miss.new.me) (view c.give_back.new.me) b back taken.1 taken.0
    (worked_err b back c.work-worked.result c.in-Err.error c.in-Err.is c.work-worked.ensures.answer) c.give_back.ensures.given).0

pub returns-in-None-clause-did : goal.returns-in-None-clause-did
returns-in-None-clause-did g c =
    let taken = c.in-Some.ensures.taken in
    let b = c.in-Some.book in
    let back = c.work-worked.new.self in
    let idle = worked_none b back c.work-worked.result c.in-Ok.done c.in-Ok.is c.in-None.is c.work-worked.ensures.answer in
    let looked =
    looked_at (view c.args.me.now) (view c.take_or_miss.new.me) (view c.give_back.new.me) b back taken.1 taken.0 idle.1 c.give_back.ensures.given in
    (looked.0, ap (λ k. k.inbox) looked.1 ∙ idle.0)
