use Rattle.ccu_end.proofs.Ending.{follow_causes, follow_clean}
use Rattle.ccu_end.proofs.recording.follow.Goals as goal

pub returns-clause-runs : goal.returns-clause-runs
returns-clause-runs g c = record {
  end = c.follow_line-end.result;
  middle = _;
  follows = c.follow_line-end.ensures.follows;
  others = c.follow_line-end.ensures.others;
  tells = c.tell_last.ensures;
}

pub returns-clause-causes : goal.returns-clause-causes
returns-clause-causes g c = follow_causes _ _ _ _ c.args.call c.args.want _ (returns-clause-runs g c)

pub returns-clause-clean : goal.returns-clause-clean
returns-clause-clean g c = follow_clean _ _ _ _ c.args.call c.args.want _ (returns-clause-runs g c)
