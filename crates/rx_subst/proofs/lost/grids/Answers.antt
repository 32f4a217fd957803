use Rattle.std.proofs.Common.{arith, rules}
use Rattle.rx_subst.proofs.Grids.{grids_none, grids_next, grids_all}
use Rattle.rx_subst.proofs.lost.grids.Goals as goal

pub loop-j-init : goal.loop-j-init
loop-j-init c = grids_none _ _ (search rules)

pub loop-j-preserved : goal.loop-j-preserved
loop-j-preserved c =
    grids_next _ c.loop-j.mc c.loop-j.draw.r c.loop-j.j c.next.result c.next.new.self.r
    (omega arith) c.loop-j.invariant c.next.ensures.value c.next.ensures.state

pub returns : goal.returns
returns c =
    let all = grids_all _ c.loop-j.mc c.loop-j.draw.r c.loop-j.j (omega arith) c.loop-j.invariant in
    record { values = all.values; source = all.source; fit = all.fit }
