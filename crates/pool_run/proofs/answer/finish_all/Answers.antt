use Rattle.std.proofs.Common.{◌+◌, ◌≤◌, List, ◌∷◌, [], All, vec_len, vec_capacity, refl, subst, sym, arith, map, ap}
use Rattle.std.proofs.lemmas.List.Elements.{All-append}
use Rattle.std.proofs.lemmas.List.{map-append}
use Rattle.pool_run.specs.declared.member.Member.{Member}
use Rattle.pool_run.specs.Pool.{IsSettled, all_given, all_obtained}
use Rattle.pool_run.specs.Member.{IsEnded, given, obtained}
use Rattle.trau_num.specs.Weights.{weigh}
use Rattle.pool_run.specs.Deque.{entry_of}
use Rattle.pool_run.proofs.Settled.{settled_first, settled_rest, room_done, count_tasks, obtained_alone, one, room_left, room_rest}
use Rattle.trau_num.proofs.Weights.{weigh-append}
use Rattle.pool_run.proofs.answer.finish_all.Goals as goal

pub append_reserved-requires : goal.append_reserved-requires
append_reserved-requires g c =
    let old = c.loop-member.invariant in
    omega (
      arith,
      old.capacity,
      room_done g.W.Work.finish c.loop-member.member-iterator.rest.items c.in-Some.member c.next.new.self.rest.items _ _ c.in-Some.ensures.steps.0 old.settled
          old.room,
    )

pub drain-requires-clause-fifo : goal.drain-requires-clause-fifo
drain-requires-clause-fifo g c =
    let old = c.loop-member.invariant in
    (settled_first g.W.Work.finish c.loop-member.member-iterator.rest.items c.in-Some.member c.next.new.self.rest.items _ _ c.in-Some.ensures.steps.0
    old.settled old.room).owner.fifo

pub drain-requires-clause-all : goal.drain-requires-clause-all
drain-requires-clause-all g c =
    let old = c.loop-member.invariant in
    (settled_first g.W.Work.finish c.loop-member.member-iterator.rest.items c.in-Some.member c.next.new.self.rest.items _ _ c.in-Some.ensures.steps.0
    old.settled old.room).owner.parts

pub drain-requires-clause-covered : goal.drain-requires-clause-covered
drain-requires-clause-covered g c =
    let old = c.loop-member.invariant in
    (settled_first g.W.Work.finish c.loop-member.member-iterator.rest.items c.in-Some.member c.next.new.self.rest.items _ _ c.in-Some.ensures.steps.0
    old.settled old.room).covered

pub drain-requires-clause-ended : goal.drain-requires-clause-ended
drain-requires-clause-ended g c =
    let finish = g.W.Work.finish in
    let old = c.loop-member.invariant in
    let first =
    settled_first finish c.loop-member.member-iterator.rest.items c.in-Some.member c.next.new.self.rest.items _ _ c.in-Some.ensures.steps.0 old.settled
    old.room in
    subst (All (IsEnded finish)) (sym c.append_reserved.ensures.items)
    (All-append (IsEnded finish) c.loop-member.finished.items c.in-Some.member.done.items old.ended first.ended)

pub drain-requires-clause-room : goal.drain-requires-clause-room
drain-requires-clause-room g c =
    let old = c.loop-member.invariant in
    omega (
      arith,
      old.capacity,
      c.append_reserved.ensures.len,
      c.append_reserved.ensures.room,
      room_left g.W.Work.finish c.loop-member.member-iterator.rest.items c.in-Some.member c.next.new.self.rest.items _ _ c.in-Some.ensures.steps.0 old.settled
          old.room,
    )

pub loop-member-init : goal.loop-member-init
loop-member-init g c =
    let finish = g.W.Work.finish in
    let is = sym c.into_iter-member-iterator.ensures.into_iter_gives.0 in
    let finished = c.args.finished.now in record {
      settled = subst (All (IsSettled finish)) is c.requires.settled;
      ended = c.requires.ended;
      entries = λ h. refl;
      room =
          subst (λ (ms : List (Member g.row.W.Denot)). vec_len finished + all_given finish (λ _. 1) ms ≤ all_obtained
          (λ _. 1) ms + vec_capacity finished) is c.requires.room;
      capacity = omega arith;
    }

pub loop-member-preserved : goal.loop-member-preserved
loop-member-preserved g c =
    let finish = g.W.Work.finish in
    let old = c.loop-member.invariant in
    let m = c.in-Some.member in
    let rest = c.loop-member.member-iterator.rest.items in
    let first = settled_first finish rest m c.next.new.self.rest.items _ _ c.in-Some.ensures.steps.0 old.settled old.room in record {
      settled = settled_rest finish rest m c.next.new.self.rest.items _ _ c.in-Some.ensures.steps.0 old.settled old.room;
      ended = c.drain.ensures.ended;
      entries = λ h. omega (
        arith,
        old.entries h,
        c.drain.ensures.entries h,
        ap (λ ts. weigh h (map (entry_of finish) ts)) c.append_reserved.ensures.items,
        ap (weigh h) (map-append (entry_of finish) c.loop-member.finished.items m.done.items),
        weigh-append h (map (entry_of finish) c.loop-member.finished.items) (map (entry_of finish) m.done.items),
        weigh-append (obtained h) c.loop-member.yielded (m ∷ []),
        weigh-append (given finish h) c.loop-member.yielded (m ∷ []),
        obtained_alone finish m h first.owner,
      );
      room = room_rest finish rest m c.next.new.self.rest.items _ _ c.in-Some.ensures.steps.0 old.settled old.room _
          (omega (
            arith,
            c.drain.ensures.entries (one finish),
            count_tasks finish c.drain.new.finished,
            count_tasks finish c.append_reserved.new.list,
            c.append_reserved.ensures.len,
          ));
      capacity = omega (arith, old.capacity, c.append_reserved.ensures.room, c.drain.ensures.room);
    }

pub returns-clause-ended : goal.returns-clause-ended
returns-clause-ended g c = c.loop-member.invariant.ended
