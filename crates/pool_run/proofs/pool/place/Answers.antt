use Rattle.std.proofs.Common.{◌∙◌, arith, vec_len, length-append, [], ◌∷◌, ap, length, refl}
use Rattle.pool_run.proofs.Pools.{entries_more}
use Rattle.pool_run.proofs.pool.place.Goals as goal

pub loop-job-init : goal.loop-job-init
loop-job-init g c = record {
  pool = c.requires.pool;
  room = c.requires.room;
  left = omega (arith, ap length c.into_iter-job-iterator.ensures.into_iter_gives.0, c.args.jobs.ok.0);
  number = refl;
  given = λ h. omega arith;
  obtained = λ h. refl;
}

pub place_at-requires-clause-pool : goal.place_at-requires-clause-pool
place_at-requires-clause-pool g c = c.loop-job.invariant.pool

pub place_at-requires-clause-room : goal.place_at-requires-clause-room
place_at-requires-clause-room g c = λ k m h.
    let old = c.loop-job.invariant in
    let room = old.room k m h in
    (room.0, omega (arith, room.1, old.left, ap length c.in-Some.ensures.steps.0))

pub loop-job-preserved : goal.loop-job-preserved
loop-job-preserved g c = let old = c.loop-job.invariant in record {
  pool = c.place_at.ensures.pool;
  room = c.place_at.ensures.room c.loop-job.number (vec_len c.args.jobs) old.room;
  left = omega (arith, old.left, ap length c.in-Some.ensures.steps.0);
  number = omega (arith, old.number, length-append c.loop-job.yielded (c.in-Some.job ∷ []));
  given =
      λ h. omega (arith, old.given h, c.place_at.ensures.given h, entries_more g.W.Work.finish h c.loop-job.yielded c.in-Some.job c.loop-job.number old.number);
  obtained = λ h. c.place_at.ensures.obtained h ∙ old.obtained h;
}

pub returns-clause-pool : goal.returns-clause-pool
returns-clause-pool g c = c.loop-job.invariant.pool

pub returns-clause-obtained : goal.returns-clause-obtained
returns-clause-obtained g c = c.loop-job.invariant.obtained
