use Rattle.std.proofs.Common.{◌≡◌, ◌∙◌, All, List, ap, arith, drop, length, map, subst, sym, vec_len}
use Rattle.trau_num.proofs.Lists.{written_back}
use Rattle.pool_run.specs.declared.member.Member.{Member}
use Rattle.pool_run.specs.Member.{IsEnded, Thief}
use Rattle.trau_num.specs.Weights.{weigh}
use Rattle.pool_run.specs.Deque.{entry_of}
use Rattle.pool_run.specs.Pool.{IsSettled, entries_from}
use Rattle.pool_run.specs.Room.{IsRoom}
use Rattle.pool_run.proofs.Orders.{entries_numbered, entries_values}
use Rattle.pool_run.proofs.Rooms.{room_less}
use Rattle.pool_run.proofs.Settled.{one, count_back, count_tasks, entries_back}
use Rattle.pool_run.proofs.pool.run_pool.Goals as goal

pub run_workers-requires-clause-room : goal.run_workers-requires-clause-room
run_workers-requires-clause-room g c = λ κs bounds.
    let finish = g.W.Work.finish in
    let jobs = vec_len c.args.jobs in
    let inside = c.room.inside in
    let is : inside.most ≡ c.args.room = c.room.view_is in
    subst (λ (ts : List (Thief g.row.W.Denot)). IsRoom finish jobs ts c.as_mut_slice.result.now) (sym c.as_slice.ensures.value)
    (subst (λ (ms : List (Member g.row.W.Denot)). IsRoom finish jobs inside.thieves.items ms) (sym c.as_mut_slice.ensures.value)
    (room_less finish inside.thieves.items inside.members.items jobs inside.most (omega (arith, is, c.requires.room)) c.room.invariant.0))

pub finish_all-requires-clause-settled : goal.finish_all-requires-clause-settled
finish_all-requires-clause-settled g c =
    let ns = c.run_workers.new.members in
    let inside = c.room.inside in
    let len : length ns ≡ inside.members.len = c.run_workers.auto.members ∙ c.as_mut_slice.ensures.len in
    subst (All (IsSettled g.W.Work.finish)) (sym (written_back ns (drop (length ns) inside.members.items) inside.members.len len)) c.run_workers.ensures.settled

pub finish_all-requires-clause-ended : goal.finish_all-requires-clause-ended
finish_all-requires-clause-ended g c = subst (All (IsEnded g.W.Work.finish)) (sym c.room.invariant.1) (λ k d h. absurd (omega arith))

pub finish_all-requires-clause-room : goal.finish_all-requires-clause-room
finish_all-requires-clause-room g c =
    let inside = c.room.inside in
    let is : inside.most ≡ c.args.room = c.room.view_is in
    let len : length c.run_workers.new.members ≡ inside.members.len = c.run_workers.auto.members ∙ c.as_mut_slice.ensures.len in
    let room = c.room.invariant in
    omega (
      arith,
      count_back g.W.Work.finish c.run_workers.new.members
          (drop (length c.run_workers.new.members) inside.members.items) inside.members.len len c.args.jobs.items c.run_workers.ensures.entries,
      ap length room.1,
      inside.finished.ok.0,
      room.2,
      c.args.jobs.ok.0,
      c.requires.room,
      is,
    )

pub in_order-requires-clause-room : goal.in_order-requires-clause-room
in_order-requires-clause-room g c =
    let finish = g.W.Work.finish in
    let inside = c.room.inside in
    let is : inside.most ≡ c.args.room = c.room.view_is in
    let len : length c.run_workers.new.members ≡ inside.members.len = c.run_workers.auto.members ∙ c.as_mut_slice.ensures.len in
    let room = c.room.invariant in
    omega (
      arith,
      count_back finish c.run_workers.new.members
          (drop (length c.run_workers.new.members) inside.members.items) inside.members.len len c.args.jobs.items c.run_workers.ensures.entries,
      c.finish_all.ensures.entries (one finish),
      count_tasks finish inside.finished,
      count_tasks finish c.finish_all.new.finished,
      ap length room.1,
      inside.finished.ok.0,
      room.4,
      c.args.jobs.ok.0,
      c.requires.room,
      is,
    )

pub returns : goal.returns
returns g c =
    let finish = g.W.Work.finish in
    let inside = c.room.inside in
    let len : length c.run_workers.new.members ≡ inside.members.len = c.run_workers.auto.members ∙ c.as_mut_slice.ensures.len in
    c.in_order.ensures (entries_from finish 0 c.args.jobs.items) (entries_numbered finish 0 c.args.jobs.items)
    (λ h. omega (
      arith,
      c.finish_all.ensures.entries h,
      entries_back finish c.run_workers.new.members
          (drop (length c.run_workers.new.members) inside.members.items) inside.members.len len c.args.jobs.items c.run_workers.ensures.entries h,
      ap (λ ts. weigh h (map (entry_of finish) ts)) c.room.invariant.1,
    )) ∙ entries_values finish 0 c.args.jobs.items
