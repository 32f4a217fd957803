use Rattle.std.proofs.Common.{◌∙◌}
use Rattle.pool_run.proofs.joins.join_row.Goals as goal

pub loop-preserved : goal.loop-preserved
loop-preserved g c =
    let old = c.loop.invariant in
    let joined = c.join_last.ensures in record {
      shared = joined.shared;
      given = λ h. joined.given h ∙ old.given h;
      obtained = λ h. joined.obtained h ∙ old.obtained h;
      others = λ i ne. joined.others i ne ∙ old.others i ne;
    }

pub returns-clause-shared : goal.returns-clause-shared
returns-clause-shared g c = c.join_last.ensures.shared

pub returns-clause-others : goal.returns-clause-others
returns-clause-others g c = λ i ne. c.join_last.ensures.others i ne ∙ c.loop.invariant.others i ne
