use Rattle.std.proofs.Common.{arith}
use Rattle.pool_run.proofs.Pools.{sums_moved, pool_moved}
use Rattle.pool_run.proofs.Joining.{pool_shared, all_owners}
use Rattle.pool_run.proofs.pool.run_workers.Goals as goal

pub place-requires : goal.place-requires
place-requires g c = let room = c.requires.room in record { pool = room.pool; some = room.some; few = c.requires.few; room = room.left }

pub work_first-requires-clause-pool : goal.work_first-requires-clause-pool
work_first-requires-clause-pool g c = λ κs bounds. c.place.ensures.pool

pub work_first-requires-clause-slice : goal.work_first-requires-clause-slice
work_first-requires-clause-slice g c = λ κs bounds. c.requires.slice

pub join_all-requires : goal.join_all-requires
join_all-requires g c =
    pool_shared g.W.Work.finish c.args.thieves.now c.work_first.new.members
    (pool_moved g.W.Work.finish c.args.thieves.now c.place.new.members c.work_first.new.members c.place.ensures.pool (omega arith) c.work_first.ensures)

pub audit_all-requires : goal.audit_all-requires
audit_all-requires g c =
    all_owners g.W.Work.finish c.args.thieves.now c.join_all.new.members c.join_all.ensures.shared (λ i h. c.join_all.ensures.joined i (omega arith))

pub returns-clause-settled : goal.returns-clause-settled
returns-clause-settled g c = c.audit_all.ensures.settled

pub returns-clause-entries : goal.returns-clause-entries
returns-clause-entries g c = λ h.
    omega (
      arith,
      c.audit_all.ensures.given h,
      c.audit_all.ensures.obtained h,
      c.join_all.ensures.given h,
      c.join_all.ensures.obtained h,
      sums_moved g.W.Work.finish c.args.thieves.now c.place.new.members c.work_first.new.members (omega arith) c.work_first.ensures h,
      c.place.ensures.given h,
      c.place.ensures.obtained h,
      c.requires.room.given h,
      c.requires.room.obtained h,
    )
