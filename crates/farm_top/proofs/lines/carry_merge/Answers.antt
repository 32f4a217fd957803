use Rattle.std.proofs.Common.{sym, subst}
use Rattle.trau_submux.specs.Tools.{CleanMerge, MergeCauses}
use Rattle.farm_top.proofs.lines.carry_merge.Goals as goal

pub returns : goal.returns
returns g c = record {
  end = c.merge-end.result;
  status_is = c.status_of_end.ensures;
  runs = c.merge-end.ensures.runs;
  causes = subst (MergeCauses (g.T.Trunk.lines c.args.trunk.now) (g.T.Trunk.lines c.merge-end.new.trunk) (g.D.Desk.desk c.args.desk.now)
      (g.D.Desk.desk c.merge-end.new.desk) c.args.call) (sym c.status_of_end.ensures) c.merge-end.ensures.causes;
  clean = subst (CleanMerge (g.T.Trunk.lines c.args.trunk.now) (g.T.Trunk.lines c.merge-end.new.trunk) (g.D.Desk.desk c.args.desk.now)
      (g.D.Desk.desk c.merge-end.new.desk) c.args.call) (sym c.status_of_end.ensures) c.merge-end.ensures.clean;
}
