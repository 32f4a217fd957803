use Rattle.std.proofs.Common.{◌≡◌, ◌+◌, ◌%◌, [], ◌∷◌, sym, ap, subst, List, length, arith}
use Rattle.std.proofs.Math.Nat.{mod-lt}
use Rattle.std.proofs.lemmas.List.{length-append}
use Rattle.pool_core.specs.declared.pool.Waiting.{Waiting}
use Rattle.pool_core.specs.Machine.{dealt}
use Rattle.pool_core.specs.Waiting.{jobs_of}
use Rattle.pool_core.proofs.Pools.{Owned, jobs_dealt, owned_more}
use Rattle.pool_core.proofs.pool.deal.Goals as goal

pub loop-job-preserved : goal.loop-job-preserved
loop-job-preserved c =
    let ws = c.loop-job.waiting.items in
    let y : Waiting = record { job = c.loop-job.job; worker = c.loop-job.job % c.args.workers } in
    let e = c.push_reserved.ensures.items in
    record {
      dealt = λ w. subst (λ (xs : List Waiting). jobs_of xs w ≡ dealt c.args.workers (c.loop-job.job + 1) w) (sym e)
          (jobs_dealt ws c.args.workers c.loop-job.job c.loop-job.invariant.dealt w);
      owned = subst (λ (xs : List Waiting). Owned xs c.args.workers) (sym e) (owned_more ws y c.args.workers c.loop-job.invariant.owned
          (mod-lt c.loop-job.job c.requires.some));
      count = omega (arith, ap length e, length-append ws (y ∷ []), c.loop-job.invariant.count);
      room = omega (arith, c.push_reserved.ensures.capacity, c.loop-job.invariant.room);
    }
