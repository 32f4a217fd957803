use Rattle.std.proofs.Common.{◌∷◌, ◌++◌, [], ap, sym, ◌∙◌, arith, length, length-append, refl}
use Rattle.std.proofs.lemmas.List.{map-append}
use Rattle.pool_run.specs.declared.deque.Task.{Task}
use Rattle.pool_run.proofs.answer.strip.Goals as goal

pub loop-task-init : goal.loop-task-init
loop-task-init g c = record { jobs = c.requires.empty; len = omega (arith, ap length c.requires.empty, c.args.answer.ok.0); room = refl }

pub loop-task-preserved : goal.loop-task-preserved
loop-task-preserved g c =
    let old = c.loop-task.invariant in
    let task = c.in-Some.task in record {
      jobs =
          c.push_reserved.ensures.items ∙ ap (λ xs. xs ++ task.job ∷ []) old.jobs
          ∙ sym (map-append (λ (t : Task g.row.W.Denot). t.job) c.loop-task.yielded (task ∷ []));
      len = omega (arith, old.len, c.push_reserved.ensures.len, length-append c.loop-task.yielded (task ∷ []));
      room = c.push_reserved.ensures.capacity ∙ old.room;
    }
