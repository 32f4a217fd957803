use Rattle.std.proofs.Common.{◌<◌, ◌++◌, ℕ, List, None, arith, length, length-append, get_or, subst, sym}
use Rattle.std.proofs.lemmas.List.{get_or_append_left}
use Rattle.pool_run.specs.declared.member.Member.{Member}
use Rattle.pool_run.specs.Member.{IsReady, Moves}
use Rattle.pool_run.proofs.Pools.{first_moved}
use Rattle.pool_run.proofs.pool.work_first.Goals as goal

pub work_all-requires-clause-ready : goal.work_all-requires-clause-ready
work_all-requires-clause-ready g c = λ κs bounds k m h.
    let finish = g.W.Work.finish in
    let thieves = c.args.thieves.now in
    let first = c.split_at_mut-first.result.0.now in
    let others = c.split_at_mut-first.result.1.now in
    let ready =
    subst (λ (ms : List (Member g.row.W.Denot)). k < length ms → IsReady finish thieves (get_or ms k m)) c.split_at_mut-first.ensures.value
    (c.requires.pool.ready k m) in
    subst (IsReady finish thieves) (get_or_append_left first others m k h) (ready (omega (arith, h, length-append first others)))

pub returns : goal.returns
returns g c =
    let finish = g.W.Work.finish in
    let thieves = c.args.thieves.now in
    let first = c.split_at_mut-first.result.0.now in
    let others = c.split_at_mut-first.result.1.now in
    subst (λ (ms : List (Member g.row.W.Denot)). (k : ℕ) (m : Member g.row.W.Denot) → k < length ms → Moves finish thieves (get_or ms k m) None
    (get_or (c.work_all.new.members ++ others) k m) None)
    (sym c.split_at_mut-first.ensures.value)
    (first_moved finish thieves first others c.work_all.new.members c.work_all.auto.members c.work_all.ensures
    (subst (λ (ms : List (Member g.row.W.Denot)). (k : ℕ) (m : Member g.row.W.Denot) → k < length ms → IsReady finish thieves
    (get_or ms k m)) c.split_at_mut-first.ensures.value c.requires.pool.ready))
