use Rattle.std.proofs.Common.{◌∙◌, subst}
use Rattle.trau_submux.specs.Tools.{TellsText, merge_end}
use Rattle.trau_submux.proofs.Ending.{merge_causes, merge_clean}
use Rattle.trau_submux.proofs.tools.merge.Goals as goal

pub returns-clause-runs : goal.returns-clause-runs
returns-clause-runs g c = record {
  end = c.merge_slot-end.result;
  merges = c.merge_slot-end.ensures.merges;
  others = c.merge_slot-end.ensures.others;
  tells =
      subst (λ text. TellsText text (merge_end c.merge_slot-end.result) (g.D.Desk.desk c.args.desk.now) (g.D.Desk.desk c.tell_end.new.desk) c.tell_end.result)
      (c.as_bytes.ensures.value ∙ c.deref.ensures.0 ∙ c.text_of_merge.ensures)
      (subst (λ end. TellsText c.as_bytes.result.now end (g.D.Desk.desk c.args.desk.now) (g.D.Desk.desk c.tell_end.new.desk) c.tell_end.result)
      c.end_of_merge.ensures c.tell_end.ensures);
}

pub returns-clause-causes : goal.returns-clause-causes
returns-clause-causes g c = merge_causes _ _ _ _ c.args.call _ (returns-clause-runs g c)

pub returns-clause-clean : goal.returns-clause-clean
returns-clause-clean g c = merge_clean _ _ _ _ c.args.call _ (returns-clause-runs g c)
