use Rattle.std.proofs.Common.{◌≡◌, inl, sym, subst, rules}
use Rattle.farm_top.specs.Farm.{EndsWith, RefusesOrders, line_text}
use Rattle.farm_top.proofs.farm.refuse_orders.Goals as goal

pub returns-in-Ok : goal.returns-in-Ok
returns-in-Ok g c =
    let is : c.as_bytes.result.now ≡ line_text c.in-Line.line = search rules in
    subst (λ f. RefusesOrders f (g.D.Desk.desk c.args.desk.now) (g.D.Desk.desk c.refuse-in-Ok.new.desk) c.refuse-in-Ok.result) (sym c.in-Line.is)
    (inl (subst (λ t. EndsWith (g.D.Desk.desk c.args.desk.now) (g.D.Desk.desk c.refuse-in-Ok.new.desk) t 2 c.refuse-in-Ok.result) is c.refuse-in-Ok.ensures))
