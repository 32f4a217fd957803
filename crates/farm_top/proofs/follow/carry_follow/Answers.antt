use Rattle.std.proofs.Common.{sym, subst}
use Rattle.ccu_end.specs.Tool.{CleanFollow, FollowCauses}
use Rattle.farm_top.proofs.follow.carry_follow.Goals as goal

pub returns : goal.returns
returns g c = record {
  end = c.follow-end.result;
  status_is = c.status_of_end.ensures;
  runs = c.follow-end.ensures.runs;
  causes = subst (FollowCauses (g.T.Trunk.lines c.args.trunk.now) (g.T.Trunk.lines c.follow-end.new.trunk) (g.D.Desk.desk c.args.desk.now)
      (g.D.Desk.desk c.follow-end.new.desk) c.args.call) (sym c.status_of_end.ensures) c.follow-end.ensures.causes;
  clean = subst (CleanFollow (g.T.Trunk.lines c.args.trunk.now) (g.T.Trunk.lines c.follow-end.new.trunk) (g.D.Desk.desk c.args.desk.now)
      (g.D.Desk.desk c.follow-end.new.desk) c.args.call c.args.want) (sym c.status_of_end.ensures) c.follow-end.ensures.clean;
}
