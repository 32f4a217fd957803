use Rattle.std.proofs.Common.{ap, ◌∙◌, arith, ℕ}
use Rattle.crossbeam_deque.specs.Handles.{worker_view}
use Rattle.pool_run.specs.declared.deque.View.{View}
use Rattle.trau_num.specs.Weights.{weigh}
use Rattle.pool_run.proofs.Pools.{ended_more, weigh_more, weigh_taken}
use Rattle.pool_run.proofs.answer.drain.Goals as goal

pub push_reserved-requires : goal.push_reserved-requires
push_reserved-requires g c =
    let popped = c.in-Some.ensures.popped in
    let old = c.loop-task.invariant in
    omega (
      arith,
      old.room,
      old.capacity,
      popped.1 (λ _. 1),
      weigh_taken g.W.Work.finish (λ _. 1) (worker_view c.loop-task.own) (worker_view c.pop_left.new.owner) c.in-Some.task popped.0,
      ap (λ (v : View g.row.W.Denot). weigh (λ _. 1) v.pushed) popped.0,
    )

pub loop-task-preserved : goal.loop-task-preserved
loop-task-preserved g c =
    let finish = g.W.Work.finish in
    let popped = c.in-Some.ensures.popped in
    let old = c.loop-task.invariant in
    let taken = λ (h : ℕ × g.row.W.Denot → ℕ). weigh_taken finish h (worker_view c.loop-task.own) (worker_view c.pop_left.new.owner) c.in-Some.task popped.0 in
    record {
      fifo = c.in-Some.ensures.same.1 ∙ old.fifo;
      parts = ap (λ (v : View g.row.W.Denot). v.parts) popped.0 ∙ old.parts;
      covered = popped.1;
      pushed = ap (λ (v : View g.row.W.Denot). v.pushed) popped.0 ∙ old.pushed;
      ended =
          ended_more finish c.loop-task.finished.items c.push_reserved.new.self.items c.run_out.result c.push_reserved.ensures.items old.ended
          c.run_out.ensures.ended;
      entries = λ h. omega (
        arith,
        old.entries h,
        weigh_more finish h c.loop-task.finished.items c.push_reserved.new.self.items c.run_out.result c.push_reserved.ensures.items,
        taken h,
        ap h c.run_out.ensures.entry,
      );
      room = omega (arith, old.room, c.push_reserved.ensures.len, taken (λ _. 1), ap (λ (v : View g.row.W.Denot). weigh (λ _. 1) v.pushed) popped.0);
      capacity = c.push_reserved.ensures.capacity ∙ old.capacity;
    }

pub loop-task-smaller : goal.loop-task-smaller
loop-task-smaller g c =
    let popped = c.in-Some.ensures.popped in
    omega (
      arith,
      popped.1 (λ _. 1),
      weigh_taken g.W.Work.finish (λ _. 1) (worker_view c.loop-task.own) (worker_view c.pop_left.new.owner) c.in-Some.task popped.0,
      ap (λ (v : View g.row.W.Denot). weigh (λ _. 1) v.pushed) popped.0,
    )
