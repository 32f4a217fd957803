use Rattle.std.proofs.Common.{sym, ap, subst, Bool}
use Rattle.farm_run.specs.Outgoing.{is_held, IsSettled}
use Rattle.farm_run.proofs.Worked.Settled.{drained}
use Rattle.farm_run.proofs.Lines.Sides.{sides_drained}
use Rattle.farm_run.proofs.outgoing.Outgoing.settle.Goals as goal

pub returns-in-Written-clause-settled : goal.returns-in-Written-clause-settled
returns-in-Written-clause-settled g c =
    subst (λ (held : Bool). IsSettled held (g.T.Trunk.lines c.args.trunk.now) (g.T.Trunk.lines c.drain.new.trunk) c.args.worked c.drain.result)
    (sym (ap is_held c.in-Written.is)) (drained _ _ c.args.worked c.drain.result c.drain.ensures.drains c.drain.ensures.others)

pub returns-in-Written-clause-sides : goal.returns-in-Written-clause-sides
returns-in-Written-clause-sides g c = sides_drained _ _ c.args.worked.portions c.drain.ensures.drains.0 _ c.drain.ensures.drains.1 c.drain.ensures.others

pub returns-in-Summed-clause-settled : goal.returns-in-Summed-clause-settled
returns-in-Summed-clause-settled g c =
    let d = c.drain-in-Summed in
    subst (λ (held : Bool). IsSettled held (g.T.Trunk.lines c.args.trunk.now) (g.T.Trunk.lines c.drain-in-Summed.new.trunk) c.args.worked
    c.drain-in-Summed.result) (sym (ap is_held c.in-Summed.is)) (drained _ _ c.args.worked d.result d.ensures.drains d.ensures.others)

pub returns-in-Summed-clause-sides : goal.returns-in-Summed-clause-sides
returns-in-Summed-clause-sides g c = let d = c.drain-in-Summed.ensures in sides_drained _ _ c.args.worked.portions d.drains.0 _ d.drains.1 d.others
