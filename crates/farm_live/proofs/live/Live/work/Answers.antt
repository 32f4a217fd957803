use Rattle.std.proofs.Common.{◌-◌, refl, arith}
use Rattle.farm_live.specs.Live.{book_at}
use Rattle.farm_live.proofs.Rows.{seat_here, seats_after, turns_at}
use Rattle.farm_live.proofs.live.Live.work.Goals as goal

pub returns-clause-farm : goal.returns-clause-farm
returns-clause-farm g c =
    seats_after c.args.self.now.inbox c.args.self.now.slots.items c.args.caller.now.number c.args.caller.now.seats.items (c.args.call - 1) c.index.result.now
    c.index_mut.result.now c.work_at.new.seat
    c.requires.farm (omega (arith, c.requires.call)) c.index.ensures c.index_mut.ensures.value c.work_at.ensures.seat

pub work_at-requires : goal.work_at-requires
work_at-requires g c = record {
  seat = (
    book_at c.args.self.now.inbox (c.args.call - 1),
    seat_here c.args.self.now.inbox c.args.self.now.slots.items c.args.caller.now.number c.args.caller.now.seats.items (c.args.call - 1) c.index.result.now
        c.index_mut.result.now c.requires.farm (omega (arith, c.requires.call)) c.index.ensures c.index_mut.ensures.value,
  );
}

pub returns-clause-answer : goal.returns-clause-answer
returns-clause-answer g c =
    turns_at _ c.args.call c.args.caller.now _ c.index_mut.result.now c.work_at.new.seat refl refl (omega (arith, c.requires.call, c.requires.farm.one_each))
    c.index_mut.ensures.value c.work_at.ensures.answer
